-- Which answers of `make` come where.
use Rattle.std.specs.Prelude.{◌≡◌, ◌⊎◌, ℕ, List, [], ◌∷◌, refl}
use Rattle.std.proofs.Common.{inl, inr, sym, subst, ◌∙◌}
use Rattle.duty_core.specs.declared.activity.Activity.{Activity}
use Rattle.rule_core.specs.Reach.{IsOneOf}
use Rattle.outside.specs.Outside.{Bytes}
use Rattle.tour_model.specs.declared.tour.Tour.{Tour}
use Rattle.tour_model.specs.Schedule.{IsSolution, IsInfeasible}
use Rattle.made_tours.specs.Drawn.{IsMade}
use Rattle.tour_plan.specs.Planned.{HasAsMany}
use Rattle.command_words.specs.declared.command.TheConstants.{BUDGET}
use Rattle.driver_cli.specs.declared.answer.Status.{Status}
use Rattle.driver_cli.specs.declared.answer.Status.TheVariants.{Done, Infeasible, Spent, WriteFault, Memory}
use Rattle.driver_cli.specs.Ends.{Told}
use Rattle.driver_cli.specs.Make.{MakeAnswers, MakeLeaves, MakeExact, MakeComplete}
use Rattle.driver_cli.specs.Sides.{WriteSide, SinkSide}
use Rattle.driver_cli.proofs.Stages.{PlanBehind}

-- the status tells of a fault of a put or a send, or of memory
abbrev pub IsPutFault : Status → Type 0
IsPutFault status = IsOneOf (WriteFault ∷ Memory ∷ []) status

-- the made tour and its log, and what is told of them
pub record IsMadeBehind (number : ℕ) (status : Status) : Type 0 where
  pub tour : Tour
  pub log : List Activity
  pub made : IsMade number tour log
  pub holds : PlanBehind BUDGET tour log status

pub make_stage : (number : ℕ) (t l : Bytes) (w : WriteSide) (s : SinkSide) (status : Status) → Told (MakeAnswers number t l w) (MakeLeaves number t l w) s status → IsPutFault status ⊎ IsMadeBehind number status
make_stage number t l w s Done e = let h = e.1 in inr (record { tour = h.tour; log = h.log; made = h.made; holds = inl (refl, (h.told.schedule, h.told.shortest.solves)) })
make_stage number t l w s Infeasible e = let h = e.1 in inr (record { tour = h.tour; log = h.log; made = h.made; holds = inr (inl (refl, h.told.infeasible)) })
make_stage number t l w s Spent e = let h = e.1 in inr (record { tour = h.tour; log = h.log; made = h.made; holds = inr (inr (refl, h.told.spent.many)) })
make_stage number t l w s WriteFault e = inl (inl refl)
make_stage number t l w s Memory e = inl (inr (inl refl))
make_stage number t l w s status e = absurd e.1

-- ---- one number makes one tour and one log

-- so what is told of those made is told of these
thereafter : (number : ℕ) (status : Status) (tour : Tour) (log : List Activity) → IsMade number tour log → IsMadeBehind number status → PlanBehind BUDGET tour log status
thereafter number status tour log m b =
    subst (λ x. PlanBehind BUDGET x log status) (b.made.drawn ∙ sym m.drawn)
    (subst (λ y. PlanBehind BUDGET b.tour y status) (b.made.week ∙ sym m.week) b.holds)

-- ---- the answers

module _ (status : Status) (tour : Tour) (log : List Activity) where
  solved : (schedule : List Activity) → IsSolution tour log schedule → PlanBehind BUDGET tour log status → IsOneOf (Spent ∷ Done ∷ WriteFault ∷ Memory ∷ []) status
  solved schedule is (inl e) = inr (inl e.0)
  solved schedule is (inr (inl e)) = absurd (e.1 schedule is)
  solved schedule is (inr (inr e)) = inl e.0

  unsolved : IsInfeasible tour log → PlanBehind BUDGET tour log status → IsOneOf (Spent ∷ Infeasible ∷ WriteFault ∷ Memory ∷ []) status
  unsolved none (inl e) = absurd (none e.1.0 e.1.1)
  unsolved none (inr (inl e)) = inr (inl e.0)
  unsolved none (inr (inr e)) = inl e.0

  enough : (HasAsMany tour log BUDGET → ⊥) → status ≡ Spent → PlanBehind BUDGET tour log status → ⊥
  enough few s (inl e) = let z : Done ≡ Spent = e.0 ∙ s in cc
  enough few s (inr (inl e)) = let z : Infeasible ≡ Spent = e.0 ∙ s in cc
  enough few s (inr (inr e)) = few e.1

no_fault_spent : (status : Status) → IsPutFault status → status ≡ Spent → ⊥
no_fault_spent status (inl e) s = let z : WriteFault ≡ Spent = e ∙ s in cc
no_fault_spent status (inr (inl e)) s = let z : Memory ≡ Spent = e ∙ s in cc
no_fault_spent status (inr (inr e)) s = e

module _ (number : ℕ) (status : Status) where
  done : IsPutFault status ⊎ IsMadeBehind number status → (tour : Tour) (log schedule : List Activity) → IsMade number tour log → IsSolution tour log schedule → IsOneOf (Spent ∷ Done ∷ WriteFault ∷ Memory ∷ []) status
  done (inl f) tour log schedule m is = inr (inr f)
  done (inr b) tour log schedule m is = solved status tour log schedule is (thereafter number status tour log m b)

  infeasible : IsPutFault status ⊎ IsMadeBehind number status → (tour : Tour) (log : List Activity) → IsMade number tour log → IsInfeasible tour log → IsOneOf (Spent ∷ Infeasible ∷ WriteFault ∷ Memory ∷ []) status
  infeasible (inl f) tour log m none = inr (inr f)
  infeasible (inr b) tour log m none = unsolved status tour log none (thereafter number status tour log m b)

  few_enough : IsPutFault status ⊎ IsMadeBehind number status → (tour : Tour) (log : List Activity) → IsMade number tour log → (HasAsMany tour log BUDGET → ⊥) → status ≡ Spent → ⊥
  few_enough (inl f) tour log m few s = no_fault_spent status f s
  few_enough (inr b) tour log m few s = enough status tour log few s (thereafter number status tour log m b)

  pub make_exact : IsPutFault status ⊎ IsMadeBehind number status → MakeExact number status
  make_exact stage = record { done = done stage; infeasible = infeasible stage; enough = few_enough stage }

  only : (no_write : WriteFault ≡ status → ⊥) (wanted : Status) → IsOneOf (Spent ∷ wanted ∷ WriteFault ∷ Memory ∷ []) status → (status ≡ Spent → ⊥) → IsOneOf (wanted ∷ Memory ∷ []) status
  only no_write wanted (inl e) never = absurd (never (sym e))
  only no_write wanted (inr (inl e)) never = inl e
  only no_write wanted (inr (inr (inl e))) never = absurd (no_write e)
  only no_write wanted (inr (inr (inr m))) never = inr m

  pub make_complete : (WriteFault ≡ status → ⊥) → MakeExact number status → MakeComplete number status
  make_complete no_write e = record {
    done = λ tour log schedule m few is. only no_write Done (e.done tour log schedule m is) (e.enough tour log m few);
    infeasible = λ tour log m few none. only no_write Infeasible (e.infeasible tour log m none) (e.enough tour log m few);
  }
