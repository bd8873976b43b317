-- How a text begins as a time does, byte by byte, and where it stops doing so.
use Rattle.std.proofs.Common.{◌≡◌, ℕ, ◌+◌, ◌/◌, ◌<◌, ◌≤◌, inl, inr, refl, sym, ap, ◌∙◌, subst, arith, List, ◌++◌, length, take, drop, get_or, ℤ, pos, negsuc, ◌≤ℤ◌}
use Rattle.std.proofs.lemmas.List.{take_more_same, take-append-drop, take-take, take_at, get_or-take, length-take-le, length-append}
use Rattle.std.proofs.lemmas.Bool.{cases_lt}
use Rattle.std.specs.Int.{IsInRange}
use Rattle.jiff_core.proofs.SignedLemmas.{signed_arith}
use Rattle.civil_minutes.specs.Time.{digit, time_text, minutes_until, IsTime, IsTimeText, BeginsTime, IsBadFrom}
use Rattle.civil_minutes.specs.Fields.{HasByte, HasTens, LacksPair}
use Rattle.civil_minutes.proofs.CenturyDates.{civil_from_date, days_within}

-- The first k bytes of the text are those of another.
pub record Agrees (text other : List ℕ) (k : ℕ) : Type 0 where
  pub inside : k ≤ length text
  pub same : take k text ≡ take k other

pub agrees_none : (text other : List ℕ) → Agrees text other 0
agrees_none text other = record { inside = omega arith; same = refl }

-- one byte more
pub agrees_more : (text other : List ℕ) (k byte : ℕ) → Agrees text other k → k < length other → HasByte text k byte → get_or other k 0 ≡ byte → Agrees text other (k + 1)
agrees_more text other k byte before room has is =
    record {
      inside = omega (arith, has.inside);
      same = take_more_same text other k 0 has.inside room before.same (has.is ∙ sym is);
    }

-- fewer bytes
pub agrees_less : (text other : List ℕ) (k j : ℕ) → j ≤ k → Agrees text other k → Agrees text other j
agrees_less text other k j le h =
    record {
      inside = omega (arith, h.inside);
      same = sym (take-take j k text le) ∙ (ap (take j) h.same ∙ take-take j k other le);
    }

-- a byte among those that agree
pub agrees_byte : (text other : List ℕ) (k j : ℕ) → j < k → Agrees text other k → HasByte text j (get_or other j 0)
agrees_byte text other k j lt h =
    record {
      inside = omega (arith, h.inside);
      is = sym (get_or-take k text j 0 lt) ∙ (ap (λ xs. get_or xs j 0) h.same ∙ get_or-take k other j 0 lt);
    }

-- The first k bytes of the text are those of some time.
pub record Opens (text : List ℕ) (k : ℕ) : Type 0 where
  pub year : ℕ
  pub month : ℕ
  pub day : ℕ
  pub hour : ℕ
  pub minute : ℕ
  pub time : IsTime year month day hour minute
  pub agrees : Agrees text (time_text year month day hour minute) k

-- the time of whose text these are the first bytes
pub opens_time : {text : List ℕ} {k y m d h n : ℕ} → IsTime y m d h n → Agrees text (time_text y m d h n) k → Opens text k
opens_time {text} {k} {y} {m} {d} {h} {n} time agrees = record { year = y; month = m; day = d; hour = h; minute = n; time = time; agrees = agrees }

-- the time of which this is the text
pub text_of_time : {text : List ℕ} {at y m d h n : ℕ} → IsTime y m d h n → text ≡ time_text y m d h n → pos at ≡ minutes_until y m d h n → IsTimeText text at
text_of_time {text} {at} {y} {m} {d} {h} {n} time spelled counted = record { year = y; month = m; day = d; hour = h; minute = n; time = time; spelled = spelled; counted = counted }

-- the bytes of that time
abbrev pub opened : {text : List ℕ} {k : ℕ} → Opens text k → List ℕ
opened o = time_text o.year o.month o.day o.hour o.minute

pub opens_less : (text : List ℕ) (k j : ℕ) → j ≤ k → Opens text k → Opens text j
opens_less text k j le o = opens_time o.time (agrees_less _ _ k j le o.agrees)

-- a number that is not negative is a natural one
natural : (z : ℤ) → pos 0 ≤ℤ z → (n : ℕ) × (pos n ≡ z)
natural (pos n) h = (n, refl)
natural (negsuc n) h = absurd (omega (arith, signed_arith, h))

-- a civil minute of these years is not negative
pub counted : (y m d h n : ℕ) → IsTime y m d h n → (at : ℕ) × (pos at ≡ minutes_until y m d h n)
counted y m d h n t =
    let within = days_within (pos y) m d (civil_from_date _ _ _ t.date) (omega (arith, signed_arith, t.century)) in
    natural (minutes_until y m d h n) (omega (arith, signed_arith, within.0))

-- a text that opens with k bytes of a time begins one there
pub begins_from_opens : (text : List ℕ) (k : ℕ) → Opens text k → BeginsTime (take k text)
begins_from_opens text k o =
    let count = counted o.year o.month o.day o.hour o.minute o.time in
    record {
      rest = drop k (opened o);
      at = count.0;
      whole = text_of_time o.time (ap (λ xs. xs ++ drop k (opened o)) o.agrees.same ∙ take-append-drop k (opened o)) count.1;
    }

-- and the other way round
pub opens_from_begins : (text : List ℕ) (k : ℕ) → k ≤ length text → BeginsTime (take k text) → Opens text k
opens_from_begins text k inside b =
    opens_time b.whole.time
    (record {
      inside = inside;
      same = sym (take_at (take k text) b.rest k (length-take-le k text inside)) ∙ ap (take k) b.whole.spelled;
    })

-- a whole time opens with each number of its bytes
pub opens_from_text : (text : List ℕ) (at k : ℕ) → k ≤ 16 → IsTimeText text at → Opens text k
opens_from_text text at k le h = opens_time h.time (record { inside = omega (arith, ap length h.spelled); same = ap (take k) h.spelled })

-- where a text opens with k bytes of a time and with no more, it is bad from there
pub bad_from : (text : List ℕ) (k : ℕ) → k < 16 → Opens text k → ¬ (Opens text (k + 1)) → IsBadFrom text k
bad_from text k small opening closed =
    record {
      none = λ at h. closed (opens_from_text text at (k + 1) (omega arith) h);
      begins = begins_from_opens text k opening;
      stops = elim (cases_lt k (length text)) [
        | inl lt ↦ inr (λ b. closed (opens_from_begins text (k + 1) (omega arith) b))
        | inr ge ↦ inl (omega (arith, opening.agrees.inside))
      ];
    }

-- a text that goes on after a time is bad from the time's end
pub bad_after : (text : List ℕ) → Opens text 16 → 16 < length text → IsBadFrom text 16
bad_after text opening long =
    record {
      none = λ at h. omega (arith, ap length h.spelled);
      begins = begins_from_opens text 16 opening;
      stops = inr (λ b. omega (arith, ap length b.whole.spelled, length-append (take 17 text) b.rest, length-take-le 17 text (omega arith)));
    }

-- a mark that is not there
pub bad_mark : (text : List ℕ) (place mark stop : ℕ) → place < 16 → Opens text place → ((o : Opens text (place + 1)) → get_or (opened o) place 0 ≡ mark) → (stop ≡ place) × ¬ (HasByte text place mark) → IsBadFrom text stop
bad_mark text place mark stop small opening is bad =
    rw bad.0 (bad_from text place small opening (λ o. bad.1 (subst (HasByte text place) (is o) (agrees_byte _ _ (place + 1) place (omega arith) o.agrees))))

-- A number from low to high stands at the place of a time's text.
pub record IsField (bytes : List ℕ) (place low high : ℕ) : Type 0 where
  pub value : ℕ
  pub in_range : IsInRange low high value
  pub tens : get_or bytes place 0 ≡ digit (value / 10)
  pub units : get_or bytes (place + 1) 0 ≡ digit value

-- a number that is not there
pub bad_pair : (text : List ℕ) (place low high stop : ℕ) → place < 15 → Opens text place → (HasTens text place low high → Opens text (place + 1)) → ((k : ℕ) → place < k → (o : Opens text k) → IsField (opened o) place low high) → LacksPair text place low high stop → IsBadFrom text stop
bad_pair text place low high stop small opening more field (inl (is, lacks)) =
    rw is (bad_from text place (omega arith) opening (λ o.
    let f = field (place + 1) (omega arith) o in
    lacks record {
      value = f.value;
      in_range = f.in_range;
      tens = subst (HasByte text place) f.tens (agrees_byte _ _ (place + 1) place (omega arith) o.agrees);
    }))
bad_pair text place low high stop small opening more field (inr (is, has, lacks)) =
    rw is (bad_from text (place + 1) (omega arith) (more has) (λ o.
    let f = field (place + 1 + 1) (omega arith) o in
    lacks f.value f.in_range record {
      tens = subst (HasByte text place) f.tens (agrees_byte _ _ (place + 1 + 1) place (omega arith) o.agrees);
      units = subst (HasByte text (place + 1)) f.units (agrees_byte _ _ (place + 1 + 1) (place + 1) (omega arith) o.agrees);
    }))
