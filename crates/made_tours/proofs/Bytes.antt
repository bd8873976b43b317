-- The bytes of a made tour's text are UTF-8, and few.
use Rattle.std.proofs.Common.{◌≡◌, ℕ, zero, suc, ◌+◌, ◌*◌, ◌^◌, ◌<◌, ◌≤◌, ◌==◌, Bool, true, false, cond, List, [], ◌++◌, codes, length, length-append, refl, arith}
use Rattle.std.specs.Fmt.{decimal}
use Rattle.std.specs.Str.{IsUtf8}
use Rattle.std.proofs.lemmas.Fmt.{length-decimal-le, IsAscii-decimal}
use Rattle.std.proofs.lemmas.Str.{IsUtf8-nil, IsUtf8-append, IsUtf8-from_ascii}
use Rattle.json.proofs.Printed.Utf8.{IsUtf8-are_ascii}
use Rattle.report_text.specs.Made.{comma_before, stop_text, tour_head}
use Rattle.made_tours.proofs.Lexed.{windows_text, stops_text, tour_end, AreDrawn}

-- ---- UTF-8

utf8-decimal : (n : ℕ) → n < 2 ^ 64 → IsUtf8 (decimal n)
utf8-decimal n small = IsUtf8-from_ascii (decimal n) (IsAscii-decimal n small)

utf8-comma : (first : Bool) → IsUtf8 (cond first [] (codes ","))
utf8-comma true = IsUtf8-nil
utf8-comma false = IsUtf8-are_ascii (codes ",") refl

utf8-eight : (o a x b y c z d : List ℕ) → IsUtf8 o → IsUtf8 a → IsUtf8 x → IsUtf8 b → IsUtf8 y → IsUtf8 c → IsUtf8 z → IsUtf8 d → IsUtf8 (((((((o ++ a) ++ x) ++ b) ++ y) ++ c) ++ z) ++ d)
utf8-eight o a x b y c z d p q r s t u v w =
    IsUtf8-append ((((((o ++ a) ++ x) ++ b) ++ y) ++ c) ++ z) d (IsUtf8-append (((((o ++ a) ++ x) ++ b) ++ y) ++ c) z (IsUtf8-append ((((o ++ a) ++ x) ++ b) ++ y) c
    (IsUtf8-append (((o ++ a) ++ x) ++ b) y (IsUtf8-append ((o ++ a) ++ x) b (IsUtf8-append (o ++ a) x (IsUtf8-append o a p q) r) s) t) u) v) w

utf8-stop : (before drive service : ℕ) → before < 20 → drive ≤ 240 → service ≤ 90 → IsUtf8 (stop_text before drive service)
utf8-stop before drive service few small short =
    utf8-eight (comma_before before) (codes "{\"name\":\"S") (decimal (before + 1)) (codes "\",\"drive\":") (decimal drive) (codes ",\"service\":") (decimal service) windows_text
    (utf8-comma (before == 0)) (IsUtf8-are_ascii (codes "{\"name\":\"S") refl) (utf8-decimal (before + 1) (omega arith)) (IsUtf8-are_ascii (codes "\",\"drive\":") refl) (utf8-decimal drive (omega arith))
    (IsUtf8-are_ascii (codes ",\"service\":") refl) (utf8-decimal service (omega arith)) (IsUtf8-are_ascii windows_text refl)

utf8-stops : (drive service : ℕ → ℕ) → AreDrawn drive service → (n before : ℕ) → before + n ≤ 20 → IsUtf8 (stops_text drive service before n)
utf8-stops drive service drawn zero before few = IsUtf8-nil
utf8-stops drive service drawn (suc n) before few =
    IsUtf8-append (stop_text before (drive before) (service before)) (stops_text drive service (before + 1) n)
    (utf8-stop before (drive before) (service before) (omega arith) (drawn.drive_most before) (drawn.service_most before))
    (utf8-stops drive service drawn n (before + 1) (omega arith))

pub text_utf8 : (drive service : ℕ → ℕ) → AreDrawn drive service → (n : ℕ) → n ≤ 20 → IsUtf8 ((tour_head ++ stops_text drive service 0 n) ++ tour_end)
text_utf8 drive service drawn n few =
    IsUtf8-append (tour_head ++ stops_text drive service 0 n) tour_end
    (IsUtf8-append tour_head (stops_text drive service 0 n) (IsUtf8-are_ascii tour_head refl) (utf8-stops drive service drawn n 0 (omega arith))) (IsUtf8-are_ascii tour_end refl)

-- ---- the number of bytes

length-eight : (o a x b y c z d : List ℕ) → length (((((((o ++ a) ++ x) ++ b) ++ y) ++ c) ++ z) ++ d) ≡ length o + length a + length x + length b + length y + length c + length z + length d
length-eight o a x b y c z d = simp length-append

length-comma : (first : Bool) → length (cond first [] (codes ",")) ≤ 1
length-comma true = omega arith
length-comma false = omega arith

stop_length : (before drive service : ℕ) → before < 20 → drive ≤ 240 → service ≤ 90 → length (stop_text before drive service) ≤ 200
stop_length before drive service few small short =
    let whole = length-eight (comma_before before) (codes "{\"name\":\"S") (decimal (before + 1)) (codes "\",\"drive\":") (decimal drive) (codes ",\"service\":") (decimal service) windows_text in
    let o = length-comma (before == 0) in
    let a : length (codes "{\"name\":\"S") ≡ 10 = refl in
    let x = length-decimal-le 2 (before + 1) (omega arith) (omega arith) (omega arith) in
    let b : length (codes "\",\"drive\":") ≡ 10 = refl in
    let y = length-decimal-le 3 drive (omega arith) (omega arith) (omega arith) in
    let c : length (codes ",\"service\":") ≡ 11 = refl in
    let z = length-decimal-le 2 service (omega arith) (omega arith) (omega arith) in
    let d : length windows_text ≡ 53 = refl in
    omega (arith, whole, o, a, x, b, y, c, z, d)

stops_length : (drive service : ℕ → ℕ) → AreDrawn drive service → (n before : ℕ) → before + n ≤ 20 → length (stops_text drive service before n) ≤ 200 * n
stops_length drive service drawn zero before few = omega arith
stops_length drive service drawn (suc n) before few =
    let whole = length-append (stop_text before (drive before) (service before)) (stops_text drive service (before + 1) n) in
    let one = stop_length before (drive before) (service before) (omega arith) (drawn.drive_most before) (drawn.service_most before) in
    let more = stops_length drive service drawn n (before + 1) (omega arith) in
    omega (arith, whole, one, more)

pub text_length : (drive service : ℕ → ℕ) → AreDrawn drive service → (n : ℕ) → n ≤ 20 → length ((tour_head ++ stops_text drive service 0 n) ++ tour_end) ≤ 5_000
text_length drive service drawn n few =
    let stops = stops_text drive service 0 n in
    let whole = length-append (tour_head ++ stops) tour_end in
    let front = length-append tour_head stops in
    let head : length tour_head ≡ 101 = refl in
    let end : length tour_end ≡ 3 = refl in
    let middle = stops_length drive service drawn n 0 (omega arith) in
    omega (arith, whole, front, head, end, middle)
