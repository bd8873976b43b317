use Rattle.std.proofs.Common.{◌++◌, ap, sym, subst, ◌∙◌, append_assoc, take, get_or}
use Rattle.std.proofs.lemmas.List.{take_more}
use Rattle.duty_core.specs.declared.mark.Mark.TheVariants.{SplitRest}
use Rattle.cert_text.specs.Text.Spelling.{AreMarkLines}
use Rattle.cert_text.proofs.Puts.{mark_lines_more, mark_forms}
use Rattle.cert_text.proofs.text.write.put_marks.Goals as goal

pub put_mark-requires-clause-minute : goal.put_mark-requires-clause-minute
put_mark-requires-clause-minute c = mark_forms c.args.params c.args.marks.now c.requires.forms c.loop-mark.mark-index _ c.loop-mark-test.true

pub loop-mark-preserved : goal.loop-mark-preserved
loop-mark-preserved c =
    let so_far = c.loop-mark.invariant in
    let line = c.in_ok-put_mark.ensures in
    let one = take_more c.args.marks.now c.loop-mark.mark-index (SplitRest 0) c.loop-mark-test.true in
    let are = mark_lines_more c.args.params (take c.loop-mark.mark-index c.args.marks.now) (get_or c.args.marks.now c.loop-mark.mark-index (SplitRest 0)) so_far.0 line.0 so_far.1 line.1 in (
      so_far.0 ++ line.0,
      subst (λ ms. AreMarkLines c.args.params ms (so_far.0 ++ line.0)) (sym one) are,
      line.2 ∙ ap (λ t. t ++ line.0) so_far.2 ∙ append_assoc c.args.out.now.items so_far.0 line.0,
    )
