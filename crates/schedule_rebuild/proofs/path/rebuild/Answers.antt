use Rattle.std.proofs.Common.{◌≡◌, ◌+◌, ◌-◌, ◌++◌, [], ◌∷◌, length, get_or, sym, ap, subst, ◌∙◌, arith}
use Rattle.schedule_rebuild.proofs.PathLaws.{IsGoingBack, back_more, back_whole, root_there, marks_whole}
use Rattle.schedule_rebuild.proofs.path.rebuild.Goals as goal

pub loop-layer-preserved : goal.loop-layer-preserved
loop-layer-preserved g c =
    let layers = c.args.layers.now in
    let at = c.loop-layer.layer in
    let k = c.index-layer-index.result in
    let e : at ≡ at - 1 + 1 = omega arith in
    let is = subst (λ ys. k ≡ get_or ys c.loop-layer.index k) c.layer.ensures c.index-layer-index.is in
    let more = back_more (length c.args.roots.now) layers c.args.place.layer c.args.place.index (at - 1) at c.loop-layer.index k c.loop-layer.acts.items c.loop-layer.marks.items c.requires.parents e is c.loop-layer.invariant in
    subst (λ acts. IsGoingBack layers c.args.place.layer c.args.place.index (at - 1) k.parent acts c.push_mark.new.marks.items) (sym c.in_ok-push.ensures.items)
    (subst (λ marks. IsGoingBack layers c.args.place.layer c.args.place.index (at - 1) k.parent (c.loop-layer.acts.items ++ k.act ∷ []) marks) (sym c.in_ok-push_mark.ensures.ok) more)

pub offset_bounds-roots-first : goal.offset_bounds-roots-first
offset_bounds-roots-first g c =
    let k = c.index-layer-index-2.result in
    let is = subst (λ ys. k ≡ get_or ys c.loop-layer.index k) c.layer-2.ensures c.index-layer-index-2.is in
    let lt = root_there (length c.args.roots.now) c.args.layers.now c.args.place.layer c.args.place.index c.loop-layer.layer c.loop-layer.index k c.loop-layer.acts.items c.loop-layer.marks.items c.requires.parents c.loop-layer-test.false is c.loop-layer.invariant in
    omega arith

pub bounds-roots-first : goal.bounds-roots-first
bounds-roots-first g c =
    let k = c.index-layer-index-2.result in
    let is = subst (λ ys. k ≡ get_or ys c.loop-layer.index k) c.layer-2.ensures c.index-layer-index-2.is in
    root_there (length c.args.roots.now) c.args.layers.now c.args.place.layer c.args.place.index c.loop-layer.layer c.loop-layer.index k c.loop-layer.acts.items c.loop-layer.marks.items c.requires.parents c.loop-layer-test.false is c.loop-layer.invariant

pub returns-clause-marks : goal.returns-clause-marks
returns-clause-marks g c =
    let layers = c.args.layers.now in
    let k = c.index-layer-index-2.result in
    let is = subst (λ ys. k ≡ get_or ys c.loop-layer.index k) c.layer-2.ensures c.index-layer-index-2.is in
    let lt = root_there (length c.args.roots.now) layers c.args.place.layer c.args.place.index c.loop-layer.layer c.loop-layer.index k c.loop-layer.acts.items c.loop-layer.marks.items c.requires.parents c.loop-layer-test.false is c.loop-layer.invariant in
    let b = back_whole layers c.args.place.layer c.args.place.index c.loop-layer.layer c.loop-layer.index k c.loop-layer.acts.items c.loop-layer.marks.items c.loop-layer-test.false is c.loop-layer.invariant in
    let root = c.index-roots-first.result in
    c.in_ok-marks.ensures ∙ (ap (λ ys. root.marks ++ ys) (c.as_slice.ensures.value ∙ (c.reverse-2.ensures.items ∙ b.marked))
    ∙ marks_whole layers c.args.roots.now c.args.place.layer c.args.place.index k root b.root lt c.index-roots-first.is)
