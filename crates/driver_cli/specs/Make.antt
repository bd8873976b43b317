-- What `make` puts and answers.
use Rattle.std.specs.Prelude.{◌≡◌, ◌⊎◌, ℕ, ◌*◌, List, length, [], ◌∷◌}
use Rattle.duty_core.specs.declared.activity.Activity.{Activity}
use Rattle.rule_core.specs.Reach.{IsOneOf}
use Rattle.tour_model.specs.declared.tour.Tour.{Tour}
use Rattle.tour_model.specs.Schedule.{duration, IsSolution, IsShortest, IsInfeasible}
use Rattle.tour_plan.specs.Planned.{IsSpent, HasAsMany}
use Rattle.made_tours.specs.Drawn.{IsMade}
use Rattle.command_words.specs.declared.command.TheConstants.{BUDGET}
use Rattle.report_text.specs.Made.{tour_made, log_made}
use Rattle.outside.specs.Outside.{Bytes}
use Rattle.driver_cli.specs.declared.answer.Status.{Status}
use Rattle.driver_cli.specs.declared.answer.Status.TheVariants.{Done, Infeasible, Spent, WriteFault, Memory}
use Rattle.driver_cli.specs.Sides.{WriteSide, IsKept, HasPut, HavePut, IsUnput, IsUnputBehind}
use Rattle.driver_cli.specs.Texts.{write_fault_text, made_shortest_text, made_infeasible_text, made_spent_text}

-- ---- what is told of a made tour

-- Some schedule is a shortest one, and the text tells how long it takes.
pub record IsMadeShortest (number : ℕ) (tour : Tour) (log : List Activity) (text : Bytes) : Type 0 where
  pub schedule : List Activity
  pub shortest : IsShortest tour log schedule
  pub told : text ≡ made_shortest_text number (length tour.stops) (duration schedule * tour.grid)

-- After the log no schedule serves the tour lawfully.
pub record IsMadeInfeasible (number : ℕ) (tour : Tour) (log : List Activity) (text : Bytes) : Type 0 where
  pub infeasible : IsInfeasible tour log
  pub told : text ≡ made_infeasible_text number (length tour.stops)

-- The search kept as many labels as the usual budget allows.
pub record IsMadeSpent (number : ℕ) (tour : Tour) (log : List Activity) (text : Bytes) : Type 0 where
  pub spent : IsSpent tour log BUDGET
  pub told : text ≡ made_spent_text number (length tour.stops) BUDGET

-- ---- answers

-- The made tour and then its log were put, and of these very two this is told.
pub record IsPutAndTold (number : ℕ) (tour_name log_name : Bytes) (w : WriteSide) (tells : Tour → List Activity → Type 0) : Type 0 where
  pub tour : Tour
  pub log : List Activity
  pub made : IsMade number tour log
  pub put : HavePut w tour_name (tour_made number) log_name log_made
  pub told : tells tour log

-- The put of the tour failed; or that of the log did, after it.
abbrev pub MakeUnput : ℕ → Bytes → Bytes → WriteSide → Bytes → Type 0
MakeUnput number tour_name log_name w text =
    (IsUnput w tour_name × (text ≡ write_fault_text tour_name)) ⊎ (IsUnputBehind w tour_name (tour_made number) log_name × (text ≡ write_fault_text log_name))

abbrev pub MakeAnswers : ℕ → Bytes → Bytes → WriteSide → Status → Bytes → Type 0
MakeAnswers number tour_name log_name w Done text = IsPutAndTold number tour_name log_name w (λ tour log. IsMadeShortest number tour log text)
MakeAnswers number tour_name log_name w Infeasible text = IsPutAndTold number tour_name log_name w (λ tour log. IsMadeInfeasible number tour log text)
MakeAnswers number tour_name log_name w Spent text = IsPutAndTold number tour_name log_name w (λ tour log. IsMadeSpent number tour log text)
MakeAnswers number tour_name log_name w WriteFault text = MakeUnput number tour_name log_name w text
MakeAnswers number tour_name log_name w status text = ⊥

-- What `make` leaves where memory runs out: all files as they were, or the tour put, or both put, or a put that failed.
abbrev pub MakeLeaves : ℕ → Bytes → Bytes → WriteSide → Type 0
MakeLeaves number tour_name log_name w =
    IsKept w
    ⊎ (HasPut w tour_name (tour_made number)
    ⊎ (HavePut w tour_name (tour_made number) log_name log_made
    ⊎ (IsUnput w tour_name
    ⊎ IsUnputBehind w tour_name (tour_made number) log_name)))

-- ---- which answers may come where

-- A solution of the made tour or that there is none is told, unless the budget is spent; and it is not where there are fewer labels than it allows.
pub record MakeExact (number : ℕ) (status : Status) : Type 0 where
  pub done : (tour : Tour) (log schedule : List Activity) → IsMade number tour log → IsSolution tour log schedule → IsOneOf (Spent ∷ Done ∷ WriteFault ∷ Memory ∷ []) status
  pub infeasible : (tour : Tour) (log : List Activity) → IsMade number tour log → IsInfeasible tour log → IsOneOf (Spent ∷ Infeasible ∷ WriteFault ∷ Memory ∷ []) status
  pub enough : (tour : Tour) (log : List Activity) → IsMade number tour log → (HasAsMany tour log BUDGET → ⊥) → status ≡ Spent → ⊥

-- Where nothing fails outside, it is told, with a budget above the number of labels.
pub record MakeComplete (number : ℕ) (status : Status) : Type 0 where
  pub done : (tour : Tour) (log schedule : List Activity) → IsMade number tour log → (HasAsMany tour log BUDGET → ⊥) → IsSolution tour log schedule → IsOneOf (Done ∷ Memory ∷ []) status
  pub infeasible : (tour : Tour) (log : List Activity) → IsMade number tour log → (HasAsMany tour log BUDGET → ⊥) → IsInfeasible tour log → IsOneOf (Infeasible ∷ Memory ∷ []) status
