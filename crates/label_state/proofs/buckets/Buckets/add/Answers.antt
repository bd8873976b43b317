use Rattle.std.proofs.Common.{◌<◌, ◌++◌, length, sym, ◌∙◌, ap, subst}
use Rattle.std.specs.Prelude.{slice_get}
use Rattle.std.proofs.lemmas.Result.{on_ok_weaker, on_err_weaker}
use Rattle.label_state.specs.Buckets.{place_if, places_in, AreUpTo}
use Rattle.label_state.proofs.BucketSteps.{noted, not_noted, set_up}
use Rattle.label_state.proofs.buckets.Buckets.add.Goals as goal

pub returns-in_err-reach-clause-depths : goal.returns-in_err-reach-clause-depths
returns-in_err-reach-clause-depths c = c.reach.ensures.depths c.args.depth c.requires

pub returns-clause-ok : goal.returns-clause-ok
returns-clause-ok c =
    let bs = c.self.inside.buckets.items in
    let there : c.args.progress < length bs = subst (λ xs. c.args.progress < length xs) (sym c.self.view_is) c.in_ok-reach.ensures.long in
    on_ok_weaker c.note.result (λ e p.
    noted c.args.depth bs c.args.progress c.index_mut-bucket.result.now c.note.new.self c.args.place there c.index_mut-bucket.ensures.value e p
    ∙ ap (λ l. l ++ place_if p c.args.place c.args.progress) (ap (λ xs. places_in c.args.depth (slice_get xs p)) c.self.view_is ∙ c.reach.ensures.same c.args.depth p)) c.note.ensures.ok

pub returns-clause-err : goal.returns-clause-err
returns-clause-err c =
    let bs = c.self.inside.buckets.items in
    let there : c.args.progress < length bs = subst (λ xs. c.args.progress < length xs) (sym c.self.view_is) c.in_ok-reach.ensures.long in
    on_err_weaker c.note.result (λ e p.
    not_noted c.args.depth bs c.args.progress c.index_mut-bucket.result.now c.note.new.self there c.index_mut-bucket.ensures.value e p
    ∙ (ap (λ xs. places_in c.args.depth (slice_get xs p)) c.self.view_is ∙ c.reach.ensures.same c.args.depth p)) c.note.ensures.err

pub returns-clause-depths : goal.returns-clause-depths
returns-clause-depths c =
    let bs = c.self.inside.buckets.items in
    let there : c.args.progress < length bs = subst (λ xs. c.args.progress < length xs) (sym c.self.view_is) c.in_ok-reach.ensures.long in
    set_up c.args.depth bs c.args.progress c.note.new.self there c.note.ensures.depth (subst (AreUpTo c.args.depth) (sym c.self.view_is) (c.reach.ensures.depths c.args.depth c.requires))
