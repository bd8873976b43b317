use Rattle.std.proofs.Common.{[], ◌∷◌, length, refl, sym, ◌∙◌, ap, subst, arith, length-append}
use Rattle.std.specs.Prelude.{slice_get}
use Rattle.label_state.specs.declared.buckets.Bucket.{Bucket}
use Rattle.label_state.specs.Buckets.{places_in, AreUpTo}
use Rattle.label_state.proofs.BucketSteps.{push_same, push_up}
use Rattle.label_state.proofs.buckets.Buckets.reach.Goals as goal

pub loop-self-init : goal.loop-self-init
loop-self-init c = record { same = λ d p. refl; depths = λ d h. h; few = c.self.invariant }

pub loop-self-preserved : goal.loop-self-preserved
loop-self-preserved c =
    let bs = c.loop-self.self-inside.buckets.items in
    let b : Bucket = record { depth = 0; places = c.new.result } in
    record {
      same = λ d p. ap (λ xs. places_in d (slice_get xs p)) c.in_ok-push.ensures.items ∙ (push_same d bs b p c.new.ensures.items ∙ c.loop-self.invariant.same d p);
      depths = λ d h. subst (AreUpTo d) (sym c.in_ok-push.ensures.items) (push_up d bs b (omega arith) (c.loop-self.invariant.depths d h));
      few = (let l = ap length c.in_ok-push.ensures.items in let m = length-append bs (b ∷ []) in let lt = c.loop-self-test.true in omega arith);
    }

pub returns-in_err-push-clause-depths : goal.returns-in_err-push-clause-depths
returns-in_err-push-clause-depths c = λ d h. subst (AreUpTo d) (sym c.in_err-push.ensures.items) (c.loop-self.invariant.depths d (subst (AreUpTo d) (sym c.self.view_is) h))

pub returns-clause-depths : goal.returns-clause-depths
returns-clause-depths c = λ d h. c.loop-self.invariant.depths d (subst (AreUpTo d) (sym c.self.view_is) h)
