-- A count tells of a history whichever way its marks are told.
use Rattle.std.proofs.Common.{ℕ, ◌+◌, List, length, refl, arith, inl, inr}
use Rattle.duty_core.specs.declared.activity.Activity.{Activity}
use Rattle.sleeper_split.specs.declared.rule.SplitRule.{SplitRule}
use Rattle.sleeper_split.specs.declared.count.SplitCount.{SplitCount}
use Rattle.sleeper_split.specs.Laws.Alike.{AreMarkedAlike, split_marked, declared_marked, last_marked}
use Rattle.sleeper_split.specs.Tracks.{HasLast, Tracks}

one_history : (p : List Activity) (Marked Other : ℕ → Type 0) (n : ℕ) → ((a : ℕ) → Marked a → Other a) → ((a : ℕ) → Other a → Marked a) → AreMarkedAlike p Marked p Other n
one_history p Marked Other n to from = record { alike = record { fronts = λ k l. refl; units = λ k l. refl }; marks = λ a b l r m. to a m; back = λ a b l r m. from a m }

last_again : (rule : SplitRule) (p : List Activity) (Marked Other : ℕ → Type 0) (s : SplitCount) → AreMarkedAlike p Marked p Other (length p + 1) → HasLast rule p Marked s.base s.last s.waiting → HasLast rule p Other s.base s.last s.waiting
last_again rule p Marked Other s g h = let b = h.last.before in record {
  from = h.from;
  to = h.to;
  last = last_marked g (omega arith) h.last;
  since = h.since;
  kind = elim h.kind [
    | inl k ↦ inl k
    | inr k ↦ (let r = k.split.run.some in inr (record {
      rest = k.rest;
      waits = k.waits;
      split = split_marked g (omega arith) k.split;
      long = k.long;
      berth = k.berth;
      first = k.first;
      start = k.start;
      earlier = last_marked g (omega arith) k.earlier;
      since = k.since;
    }))
  ];
}

-- Two ways to tell the marks that agree everywhere.
pub tracks_marked : (rule : SplitRule) (p : List Activity) (Marked Other : ℕ → Type 0) (s : SplitCount) → ((a : ℕ) → Marked a → Other a) → ((a : ℕ) → Other a → Marked a) → Tracks rule p Marked s → Tracks rule p Other s
tracks_marked rule p Marked Other s to from t = record {
  short = t.short;
  run = t.run;
  ends = t.ends;
  earlier = λ a m. t.earlier a (from a m);
  inside = t.inside;
  stretch = t.stretch;
  longest = t.longest;
  state = elim t.state [
    | inl f ↦ inl (record {
      none = λ a b d. f.none a b (declared_marked (one_history p Other Marked (b + 1) from to) (omega arith) d);
      long = f.long;
      counted = f.counted;
      free = f.free;
    })
    | inr c ↦ inr (record { counted = c.counted; has_last = last_again rule p Marked Other s (one_history p Marked Other (length p + 1) to from) c.has_last })
  ];
}
