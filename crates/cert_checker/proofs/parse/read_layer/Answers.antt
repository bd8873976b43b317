use Rattle.std.proofs.Common.{◌≡◌, sym, ◌∙◌, ap, subst}
use Rattle.cert_text.specs.CoverLists.Planning.{minute_of}
use Rattle.cert_checker.specs.Parsed.{labels_of, AreStatesIn, AreWithin}
use Rattle.cert_checker.proofs.ParsedLaws.{ok_also, states_read, within_read}
use Rattle.cert_checker.proofs.parse.read_layer.Goals as goal

pub returns-in_ok-read_labels-in-Some-clause-states : goal.returns-in_ok-read_labels-in-Some-clause-states
returns-in_ok-read_labels-in-Some-clause-states g c =
    let book = c.args.terms.now.book.now in
    let state_of = (g.B.RuleBook.machine book).state_of in
    let at = minute_of c.args.terms.now.tour.now c.args.step in
    let items = c.in_ok-read_labels-in-Some.field-0.items in
    let read : items ≡ labels_of state_of c.args.terms.now.goal at c.items.result.now = c.in_ok-read_labels-in-Some.ensures ∙ ap (λ m. labels_of state_of c.args.terms.now.goal m c.items.result.now) c.minute_at-at.ensures in
    ok_also c.new-in-Some.result (λ v. v ≡ items) (λ v. AreStatesIn (λ s. (g.B.RuleBook.machine book).is_state s at) v)
    (λ v e. subst (λ os. AreStatesIn (λ s. (g.B.RuleBook.machine book).is_state s at) os) (sym (e ∙ read))
    (states_read (g.B.RuleBook.machine book).is_state state_of (g.B.RuleBook.machine book).numbers (g.met.B.RuleBook.laws book).text.numbers_told c.args.terms.now.goal at c.items.result.now)) c.new-in-Some.ensures

pub returns-in_ok-read_labels-in-Some-clause-within : goal.returns-in_ok-read_labels-in-Some-clause-within
returns-in_ok-read_labels-in-Some-clause-within g c =
    let state_of = (g.B.RuleBook.machine c.args.terms.now.book.now).state_of in
    let items = c.in_ok-read_labels-in-Some.field-0.items in
    let read : items ≡ labels_of state_of c.args.terms.now.goal c.minute_at-at.result c.items.result.now = c.in_ok-read_labels-in-Some.ensures in
    ok_also c.new-in-Some.result (λ v. v ≡ items) (λ v. AreWithin c.args.terms.now.goal v)
    (λ v e. subst (λ os. AreWithin c.args.terms.now.goal os) (sym (e ∙ read)) (within_read state_of c.args.terms.now.goal c.minute_at-at.result c.items.result.now)) c.new-in-Some.ensures
