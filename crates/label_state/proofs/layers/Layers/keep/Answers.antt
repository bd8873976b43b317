use Rattle.std.proofs.Common.{◌-◌, ◌<◌, length, sym, subst, ap, ◌∙◌, arith}
use Rattle.std.proofs.lemmas.List.{length-map}
use Rattle.label_state.specs.declared.layers.TheConstants.{LAYER_LIMIT}
use Rattle.label_state.specs.Layers.{label_count, with_kept}
use Rattle.label_state.specs.Plain.{plain, AreHeld}
use Rattle.label_state.proofs.LayersLaws.{kept_last, same_last, undone_last, held_last, held_so, on_err_of}
use Rattle.label_state.proofs.layers.Layers.keep.Goals as goal

pub invariant_of-self : goal.invariant_of-self
invariant_of-self g c =
    let vs = c.self.inside.layers.items in
    let some : 0 < length vs = subst (λ n. 0 < n) (length-map vs (λ v. v.items)) (subst (λ ls. 0 < length ls) (sym c.self.view_is) c.requires.some) in
    let e = c.len-depth.ensures in
    subst (λ ls. AreHeld ls c.self.inside.kept c.self.inside.by_progress) (sym (same_last vs (c.len-depth.result - 1) c.index_mut-layer.result.now c.push.new.self (omega arith) c.index_mut-layer.ensures.value c.in_err-push.ensures.items)) c.self.invariant

pub returns-in_err-push-clause-err : goal.returns-in_err-push-clause-err
returns-in_err-push-clause-err g c =
    let vs = c.self.inside.layers.items in
    let some : 0 < length vs = subst (λ n. 0 < n) (length-map vs (λ v. v.items)) (subst (λ ls. 0 < length ls) (sym c.self.view_is) c.requires.some) in
    let e = c.len-depth.ensures in
    let same = same_last vs (c.len-depth.result - 1) c.index_mut-layer.result.now c.push.new.self (omega arith) c.index_mut-layer.ensures.value c.in_err-push.ensures.items ∙ c.self.view_is in
    on_err_of c.from_residual.result same

pub invariant_of-self-2 : goal.invariant_of-self-2
invariant_of-self-2 g c =
    let vs = c.self.inside.layers.items in
    let some : 0 < length vs = subst (λ n. 0 < n) (length-map vs (λ v. v.items)) (subst (λ ls. 0 < length ls) (sym c.self.view_is) c.requires.some) in
    let room : label_count (plain vs) < LAYER_LIMIT = subst (λ ls. label_count ls < LAYER_LIMIT) (sym c.self.view_is) c.requires.room in
    held_last vs c.len-depth.result c.len-place.result c.self.inside.kept c.index_mut-layer.result.now c.push.new.self c.args.kept c.self.inside.by_progress c.add.new.self
    (let e = c.len-depth.ensures in omega arith) some c.index_mut-layer.ensures.value c.in_ok-push.ensures.items (let e = c.len-place.ensures in omega arith) room c.self.invariant c.in_default.ensures.ok c.in_default.ensures.depths

pub returns-clause-ok : goal.returns-clause-ok
returns-clause-ok g c =
    let vs = c.self.inside.layers.items in
    let some : 0 < length vs = subst (λ n. 0 < n) (length-map vs (λ v. v.items)) (subst (λ ls. 0 < length ls) (sym c.self.view_is) c.requires.some) in
    kept_last vs c.len-depth.result c.index_mut-layer.result.now c.push.new.self c.args.kept (let e = c.len-depth.ensures in omega arith) some c.index_mut-layer.ensures.value c.in_ok-push.ensures.items
    ∙ ap (λ ls. with_kept ls c.args.kept) c.self.view_is

-- where the place could not be noted, the label is taken out again
pub invariant_of-self-in-Err : goal.invariant_of-self-in-Err
invariant_of-self-in-Err g c =
    let vs = c.self.inside.layers.items in
    let some : 0 < length vs = subst (λ n. 0 < n) (length-map vs (λ v. v.items)) (subst (λ ls. 0 < length ls) (sym c.self.view_is) c.requires.some) in
    let e = c.len-depth.ensures in
    subst (λ ls. AreHeld ls c.self.inside.kept c.add.new.self)
    (sym (undone_last vs (c.len-depth.result - 1) c.index_mut-layer.result.now c.push.new.self c.index_mut.result.now c.truncate.new.self c.args.kept c.len-place.result (omega arith) c.index_mut-layer.ensures.value c.in_ok-push.ensures.items
    (let f = c.len-place.ensures in omega arith) c.index_mut.ensures.value c.truncate.ensures.items))
    (held_so vs c.len-depth.result c.self.inside.kept c.self.inside.by_progress c.add.new.self (omega arith) c.self.invariant c.in-Err.ensures.err c.in-Err.ensures.depths)

pub returns-in-Err-clause-err : goal.returns-in-Err-clause-err
returns-in-Err-clause-err g c =
    let vs = c.self.inside.layers.items in
    let some : 0 < length vs = subst (λ n. 0 < n) (length-map vs (λ v. v.items)) (subst (λ ls. 0 < length ls) (sym c.self.view_is) c.requires.some) in
    let e = c.len-depth.ensures in
    undone_last vs (c.len-depth.result - 1) c.index_mut-layer.result.now c.push.new.self c.index_mut.result.now c.truncate.new.self c.args.kept c.len-place.result (omega arith) c.index_mut-layer.ensures.value c.in_ok-push.ensures.items
    (let f = c.len-place.ensures in omega arith) c.index_mut.ensures.value c.truncate.ensures.items
    ∙ c.self.view_is
