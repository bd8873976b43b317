use Rattle.std.proofs.Common.{◌≡◌, ◌+◌, ◌*◌, ◌<◌, ◌∷◌, [], ◌++◌, take, length, refl, sym, ◌∙◌, ap, subst, arith}
use Rattle.std.proofs.lemmas.List.{take_more, take_all, length-take-le}
use Rattle.duty_core.specs.declared.activity.Activity.TheVariants.{Off}
use Rattle.duty_core.specs.Params.{unit_minutes}
use Rattle.cert_checker.specs.Followed.{AreHeld, HasAllUsed}
use Rattle.cert_checker.proofs.FollowLaws.{held_first, held_more, held_states, held_lawful, lawful_held}
use Rattle.cert_checker.proofs.follow.is_lawful_with.Goals as goal

pub loop-unit-init : goal.loop-unit-init
loop-unit-init g c =
    let m = g.B.RuleBook.machine c.args.book.now in
    held_first (unit_minutes m.params) m.nexts (m.root c.args.first) c.args.first c.args.marks.now c.push.new.self.items (record { state = c.in_ok-root.field-0; used = 0 }) c.in_ok-root.ensures.root refl
    (c.in_ok-push.ensures.items ∙ ap (λ xs. xs ++ record { state = c.in_ok-root.field-0; used = 0 } ∷ []) c.new-held.ensures.items)

pub held_after-requires-clause-states : goal.held_after-requires-clause-states
held_after-requires-clause-states g c =
    let book = c.args.book.now in
    let h = c.args.history.now in
    let u = c.loop-unit.unit in
    let n : length (take u h) ≡ u = length-take-le u h (omega arith) in
    let at : c.args.first + c.unit_of-minutes.result * u ≡ c.args.first + unit_minutes (g.B.RuleBook.machine book).params * length (take u h) =
    ap (λ m. c.args.first + m * u) (c.unit_of-minutes.ensures ∙ ap unit_minutes c.params.ensures) ∙ ap (λ k. c.args.first + unit_minutes (g.B.RuleBook.machine book).params * k) (sym n) in
    held_states (unit_minutes (g.B.RuleBook.machine book).params) (g.B.RuleBook.machine book).is_state (g.B.RuleBook.machine book).nexts ((g.B.RuleBook.machine book).root c.args.first) c.args.first (take u h) c.args.marks.now c.loop-unit.held.items
    (c.args.first + c.unit_of-minutes.result * u) at (g.met.B.RuleBook.laws book).lasts.next_is_state ((g.met.B.RuleBook.laws book).root_is_state c.args.first c.requires.begins) c.loop-unit.invariant

pub loop-unit-preserved : goal.loop-unit-preserved
loop-unit-preserved g c =
    let book = c.args.book.now in
    let h = c.args.history.now in
    let u = c.loop-unit.unit in
    let lt : u < length h = omega arith in
    let n : length (take u h) ≡ u = length-take-le u h (omega arith) in
    let at : c.args.first + c.unit_of-minutes.result * u ≡ c.args.first + unit_minutes (g.B.RuleBook.machine book).params * length (take u h) =
    ap (λ m. c.args.first + m * u) (c.unit_of-minutes.ensures ∙ ap unit_minutes c.params.ensures) ∙ ap (λ k. c.args.first + unit_minutes (g.B.RuleBook.machine book).params * k) (sym n) in
    let more : take (u + 1) h ≡ take u h ++ c.at.result ∷ [] = take_more h u Off lt ∙ ap (λ x. take u h ++ x ∷ []) c.at.ensures in
    subst (λ ys. AreHeld (unit_minutes (g.B.RuleBook.machine book).params) (g.B.RuleBook.machine book).nexts ((g.B.RuleBook.machine book).root c.args.first) c.args.first ys c.args.marks.now c.in_ok-held.held.items) (sym more)
    (held_more (unit_minutes (g.B.RuleBook.machine book).params) (g.B.RuleBook.machine book).nexts ((g.B.RuleBook.machine book).root c.args.first) c.args.first (take u h) c.args.marks.now c.loop-unit.held.items c.in_ok-held.held.items
    (c.args.first + c.unit_of-minutes.result * u) c.at.result at c.loop-unit.invariant c.in_ok-held.ensures)

pub returns : goal.returns
returns g c =
    let book = c.args.book.now in
    let h = c.args.history.now in
    let unit = unit_minutes (g.B.RuleBook.machine book).params in
    let whole : take c.loop-unit.unit h ≡ h = take_all c.loop-unit.unit h (omega arith) in
    let held = subst (λ ys. AreHeld unit (g.B.RuleBook.machine book).nexts ((g.B.RuleBook.machine book).root c.args.first) c.args.first ys c.args.marks.now c.loop-unit.held.items) whole c.loop-unit.invariant in
    let exact = (g.met.B.RuleBook.laws book).exact c.args.first h c.args.marks.now c.requires in (
      (λ t. exact.0 (held_lawful unit (g.B.RuleBook.machine book).nexts ((g.B.RuleBook.machine book).root c.args.first) c.args.first h c.args.marks.now c.loop-unit.held.items held
          (subst (λ ys. HasAllUsed c.args.marks.now ys) c.deref.ensures.value (c.has_all_used.ensures.0 t)))),
      (λ l. (let q = exact.1 l in c.has_all_used.ensures.1 (subst (λ ys. HasAllUsed c.args.marks.now ys) (sym c.deref.ensures.value)
          (lawful_held unit (g.B.RuleBook.machine book).nexts ((g.B.RuleBook.machine book).root c.args.first) c.args.first h c.args.marks.now c.loop-unit.held.items held q.0 q.1)))),
    )
