-- Kinds and stamps as the reader tests them are kinds and stamps as they are spelled and written.
use Rattle.std.proofs.Common.{◌≡◌, refl, ◌↔◌, Bool, true, false, not, ◌&&◌, ◌||◌, ℕ, zero, suc, ◌+◌, ◌-◌, ◌*◌, ◌/◌, ◌%◌, ◌≤◌, ◌<◌, leb, ltb, eqb, length, drop, get_or, sym, ap, ◌∙◌, subst, ⊎_elim, add-one, arith, lit<, leb→le, le→leb, ltb→lt, lt→ltb, List, [], ◌∷◌, ◌++◌, T, eqb→eq}
use Rattle.std.proofs.Math.Facts.{and_yes, yes_and, or_yes}
use Rattle.groups.proofs.Laws.Tests.{one_test}
use Rattle.characters.specs.Answers.{every, every_at, every_joined, below, below_at, pick}
use Rattle.characters.specs.Wire.{SP}
use Rattle.groups.specs.Kinds.{within, of_kind}
use Rattle.groups.specs.Table.{codes}
use Rattle.groups.specs.Stamps.{
  two_digits,
  year_of,
  month_of,
  day_of,
  hour_of,
  minute_of,
  second_of,
  month_right,
  days_in,
  day_right,
  hour_right,
  minute_right,
  second_right,
  date_right,
  season_right,
  stamp_as,
  stamp_right,
}
use Rattle.groups.specs.Spelled.{among, spelled}
use Rattle.groups.specs.RightStamps.{two, last_day, Dated, RightStamp}
use Rattle.groups.proofs.Laws.Groups.{length_zero}
use Rattle.groups.proofs.Laws.OnTheWire.{of_kind_plain, plain_below}
use Rattle.groups.specs.declared.table.Kind.{Kind}
use Rattle.groups.specs.declared.table.Kind.TheVariants.{Digits, Hex, Text}
use Rattle.groups.specs.declared.table.Mark.{Mark}
use Rattle.groups.specs.declared.table.Mark.TheVariants.{Unstamped, Letter, Space}

-- whether two tests say the same
abbrev same_test : Bool → Bool → Bool
same_test true b = b
same_test false b = not b

-- ---- Kinds

-- what passes for each of these characters passes for one of them
among_passes : (f : ℕ → Bool) (xs : List ℕ) (c : ℕ) → T (every f xs) → T (among xs c) → T (f c)
among_passes f [] c t u = absurd u
among_passes f (x ∷ xs) c t u =
    let h = and_yes (f x) (every f xs) t in
    ⊎_elim (λ e. subst (λ (y : ℕ). T (f y)) (sym (eqb→eq c x e)) h.0) (λ v. among_passes f xs c h.1 v)
    (or_yes (eqb c x) (among xs c) u)

-- each character below 128 that is of a kind is spelled out for it
abbrev is_spelled : Kind → ℕ → Bool
is_spelled k c = not (of_kind k c) || among (spelled k) c

all_spelled : (k : Kind) → T (below (is_spelled k) 128)
all_spelled Digits = tt
all_spelled Hex = tt
all_spelled Text = tt

-- and each that is spelled out is of the kind
all_of_kind : (k : Kind) → T (every (of_kind k) (spelled k))
all_of_kind Digits = tt
all_of_kind Hex = tt
all_of_kind Text = tt

-- of two tests the second, where the first is passed
then : (a b : Bool) → T (not a || b) → T a → T b
then true b t u = t
then false b t u = absurd u

pub kinds_agree : (k : Kind) (c : ℕ) → T (of_kind k c) ↔ T (among (spelled k) c)
kinds_agree k c = (
  λ t. then (of_kind k c) _ (below_at (is_spelled k) 128 (all_spelled k) c (plain_below c (of_kind_plain k c t))) t,
  among_passes (of_kind k) (spelled k) c (all_of_kind k),
)

-- and so for a text
pub kinds_agree_in : (k : Kind) (d : List ℕ) → every (of_kind k) d ≡ every (among (spelled k)) d
kinds_agree_in k [] = refl
kinds_agree_in k (x ∷ d) = rw (one_test (of_kind k x) (among (spelled k) x) (kinds_agree k x).0 (kinds_agree k x).1, kinds_agree_in k d)

-- ---- Numbers of two digits

-- two tests that say the same are the same
same_test_lem : (a b : Bool) → T (same_test a b) → a ≡ b
same_test_lem true true t = refl
same_test_lem true false t = absurd t
same_test_lem false true t = absurd t
same_test_lem false false t = refl

-- what is computed of each number below 100: the two digits that write it, what they are read as, and the limits; and of
-- the months of each year below 100
abbrev limits : ℕ → Bool
limits n =
    eqb (two_digits (two n) 0) n
    && every (of_kind Digits) (two n)
    && same_test (month_right n) (leb 1 n && leb n 12)
    && same_test (hour_right n) (ltb n 24)
    && same_test (minute_right n) (ltb n 60)
    && same_test (second_right n) (ltb n 60)

abbrev last_day_right : ℕ → ℕ → Bool
last_day_right year n = eqb (days_in year (suc n)) (last_day year (suc n)) && ltb (last_day year (suc n)) 100

abbrev last_days : ℕ → Bool
last_days year = below (last_day_right year) 12

computed : T (below (λ n. limits n && last_days n) 100)
unfolding two days_in pick
computed = tt

-- of tests in a row, each
six : (a b c d e f : Bool) → T (a && b && c && d && e && f) → T a × T b × T c × T d × T e × T f
six a b c d e f t =
    let p = and_yes (a && b && c && d && e) f t in
    let q = and_yes (a && b && c && d) e p.0 in
    let r = and_yes (a && b && c) d q.0 in
    let s = and_yes (a && b) c r.0 in
    let u = and_yes a b s.0 in
    (u.0, u.1, s.1, r.1, q.1, p.1)

-- and back
all_six : (a b c d e f : Bool) → T a → T b → T c → T d → T e → T f → T (a && b && c && d && e && f)
all_six a b c d e f ta tb tc td te tf =
    yes_and (a && b && c && d && e) f
    (yes_and (a && b && c && d) e
    (yes_and (a && b && c) d
    (yes_and (a && b) c
    (yes_and a b ta tb)
    tc)
    td)
    te)
    tf

record Numeral (n : ℕ) : Type 0 where
  reads : two_digits (two n) 0 ≡ n
  digits : T (every (of_kind Digits) (two n))
  as_month : month_right n ≡ (leb 1 n && leb n 12)
  as_hour : hour_right n ≡ ltb n 24
  as_minute : minute_right n ≡ ltb n 60
  as_second : second_right n ≡ ltb n 60
  as_year : (month : ℕ) → 1 ≤ month → month ≤ 12 → (days_in n month ≡ last_day n month) × (last_day n month < 100)

numeral : (n : ℕ) → n < 100 → Numeral n
numeral n h =
    let (t, days) = and_yes (limits n) (last_days n) (below_at (λ n. limits n && last_days n) 100 computed n h) in
    let (a, b, c, d, e, f) =
    six (eqb (two_digits (two n) 0) n) (every (of_kind Digits) (two n))
    (same_test (month_right n) (leb 1 n && leb n 12)) (same_test (hour_right n) (ltb n 24))
    (same_test (minute_right n) (ltb n 60)) (same_test (second_right n) (ltb n 60)) t in
    record {
      reads = eqb→eq _ _ a;
      digits = b;
      as_month = same_test_lem (month_right n) _ c;
      as_hour = same_test_lem (hour_right n) _ d;
      as_minute = same_test_lem (minute_right n) _ e;
      as_second = same_test_lem (second_right n) _ f;
      as_year = day_at days;
    }
  where
    day_at : T (last_days n) → (month : ℕ) → 1 ≤ month → month ≤ 12
        → (days_in n month ≡ last_day n month) × (last_day n month < 100)
    day_at t zero l u = absurd (omega arith)
    day_at t (suc k) l u =
        let (e, h) = and_yes (eqb (days_in n (suc k)) (last_day n (suc k))) _ (below_at (last_day_right n) 12 t k (omega arith)) in
        (eqb→eq _ _ e, ltb→lt _ 100 h)

-- ---- Two digits

abbrev is_digit : ℕ → Bool
is_digit a = not (of_kind Digits a) || eqb (get_or (codes "0123456789") (a - 0x30) 0) a && ltb (a - 0x30) 10

-- a digit is among the digits at the place that it stands for
digit_code : (a : ℕ) → T (of_kind Digits a) → (get_or (codes "0123456789") (a - 0x30) 0 ≡ a) × (a - 0x30 < 10)
digit_code a t =
    let b = plain_below a (of_kind_plain Digits a t) in
    let u = then (of_kind Digits a) _ (below_at is_digit 128 tt a b) t in
    let (e, h) = and_yes (eqb (get_or (codes "0123456789") (a - 0x30) 0) a) _ u in
    (eqb→eq _ _ e, ltb→lt (a - 0x30) 10 h)

-- two digits are those of the number that they write, which is below 100
digits_two : (a b : ℕ) → T (of_kind Digits a) → T (of_kind Digits b)
    → (two (two_digits (a ∷ b ∷ []) 0) ≡ a ∷ b ∷ []) × (two_digits (a ∷ b ∷ []) 0 < 100)
unfolding two
digits_two a b t u =
    let (ea, ha) = digit_code a t in
    let (eb, hb) = digit_code b u in
    let p : ((a - 0x30) * 10 + (b - 0x30)) / 10 ≡ a - 0x30 = omega arith in
    let q : ((a - 0x30) * 10 + (b - 0x30)) % 10 ≡ b - 0x30 = omega arith in
    (rw (p, q, ea, eb), omega arith)

-- two of twelve digits
pair_at : (t : List ℕ) → length t ≡ 12 → T (every (of_kind Digits) t) → (i : ℕ) → suc i < 12
    → (two (two_digits t i) ≡ get_or t i 0 ∷ get_or t (suc i) 0 ∷ []) × (two_digits t i < 100)
pair_at t n digits i h =
    let at : (j : ℕ) → j < 12 → T (of_kind Digits (get_or t j 0)) =
    λ j k. every_at (of_kind Digits) t 0 digits j (rw n k) in
    rw add-one (digits_two (get_or t i 0) (get_or t (suc i) 0) (at i (omega arith)) (at (suc i) h))

-- ---- A number between two others

within_is : (low high n : ℕ) → T (within low high n) → (low ≤ n) × (n ≤ high)
within_is low high n t = let (u, v) = and_yes (leb low n) (leb n high) t in (leb→le low n u, leb→le n high v)

is_within : (low high n : ℕ) → low ≤ n → n ≤ high → T (within low high n)
is_within low high n h k = yes_and (leb low n) (leb n high) (le→leb low n h) (le→leb n high k)

-- ---- A text by its places

-- what stands at the first n places
abbrev listed : ℕ → (ℕ → ℕ) → List ℕ
listed zero f = []
listed (suc n) f = f 0 ∷ listed n (λ i. f (suc i))

by_places : (n : ℕ) (s : List ℕ) → length s ≡ n → s ≡ listed n (λ i. get_or s i 0)
by_places zero [] h = refl
by_places zero (x ∷ s) h = absurd (omega arith)
by_places (suc n) [] h = absurd (omega arith)
by_places (suc n) (x ∷ s) h = ap (λ (l : List ℕ). x ∷ l) (by_places n s (omega arith))

-- ---- The day and the time

-- each test of a date
date_tests : (s : List ℕ) → T (date_right s)
    → T (every (of_kind Digits) (drop 1 s)) × T (month_right (month_of s)) × T (day_right (year_of s) (month_of s) (day_of s))
    × T (hour_right (hour_of s)) × T (minute_right (minute_of s)) × T (second_right (second_of s))
unfolding date_right
date_tests s t =
    six (every (of_kind Digits) (drop 1 s)) (month_right (month_of s)) (day_right (year_of s) (month_of s) (day_of s))
    (hour_right (hour_of s)) (minute_right (minute_of s)) (second_right (second_of s)) t

-- 12 characters behind a season that pass the tests are a day and a time, written
dated : (seasons : List ℕ) (x : ℕ) (t : List ℕ) → length t ≡ 12 → T (among seasons x) → T (date_right (x ∷ t))
    → Dated seasons (x ∷ t)
dated seasons x t n season right =
    let s = x ∷ t in
    let (digits, month, day, hour, minute, second) = date_tests s right in
    let pair = pair_at t n digits in
    let at : (i : ℕ) → suc i < 12 → Numeral (two_digits t i) = λ i h. numeral (two_digits t i) (pair i h).1 in
    let (m1, m12) = within_is 1 12 (month_of s) (subst T (at 2 (lit< tt)).as_month month) in
    let (d1, last) = within_is 1 _ (day_of s) day in
    record {
      season = x;
      year = year_of s;
      month = month_of s;
      day = day_of s;
      hour = hour_of s;
      minute = minute_of s;
      second = second_of s;
      in_season = season;
      in_century = (pair 0 (lit< tt)).1;
      in_year = (m1, m12);
      in_month = (d1, subst (λ (k : ℕ). day_of s ≤ k) ((at 0 (lit< tt)).as_year (month_of s) m1 m12).0 last);
      in_day = ltb→lt (hour_of s) 24 (subst T (at 6 (lit< tt)).as_hour hour);
      in_hour = ltb→lt (minute_of s) 60 (subst T (at 8 (lit< tt)).as_minute minute);
      in_minute = ltb→lt (second_of s) 60 (subst T (at 10 (lit< tt)).as_second second);
      written =
          ap (λ (l : List ℕ). x ∷ l) (by_places 12 t n)
          ∙ rw (
            (pair 0 (lit< tt)).0,
            (pair 2 (lit< tt)).0,
            (pair 4 (lit< tt)).0,
            (pair 6 (lit< tt)).0,
            (pair 8 (lit< tt)).0,
            (pair 10 (lit< tt)).0,
          );
    }

-- and what is written so passes them
module _ (seasons s : List ℕ) (d : Dated seasons s) where
  abbrev shape : List ℕ
  shape = d.season ∷ two d.year ++ two d.month ++ two d.day ++ two d.hour ++ two d.minute ++ two d.second

  shape_right : T (date_right shape)
  unfolding date_right two
  shape_right =
      let (m1, m12) = d.in_year in
      let (d1, last) = d.in_month in
      let y = numeral d.year d.in_century in
      let (day, small) = y.as_year d.month m1 m12 in
      let m = numeral d.month (omega (arith, m12)) in
      let k = numeral d.day (omega (arith, last, small)) in
      let h = numeral d.hour (omega (arith, d.in_day)) in
      let i = numeral d.minute (omega (arith, d.in_hour)) in
      let j = numeral d.second (omega (arith, d.in_minute)) in
      let behind_hour = two d.minute ++ two d.second in
      let behind_day = two d.hour ++ behind_hour in
      let behind_month = two d.day ++ behind_day in
      let behind_year = two d.month ++ behind_month in
      let digits = of_kind Digits in
      all_six (every digits (drop 1 shape)) (month_right (month_of shape))
      (day_right (year_of shape) (month_of shape) (day_of shape)) (hour_right (hour_of shape)) (minute_right (minute_of shape))
      (second_right (second_of shape))
      (every_joined digits (two d.year) behind_year y.digits
      (every_joined digits (two d.month) behind_month m.digits
      (every_joined digits (two d.day) behind_day k.digits
      (every_joined digits (two d.hour) behind_hour h.digits
      (every_joined digits (two d.minute) (two d.second) i.digits j.digits)))))
      (rw (m.reads, m.as_month) (is_within 1 12 d.month m1 m12))
      (rw (y.reads, m.reads, k.reads, day) (is_within 1 (last_day d.year d.month) d.day d1 last))
      (rw (h.reads, h.as_hour) (lt→ltb d.hour 24 d.in_day))
      (rw (i.reads, i.as_minute) (lt→ltb d.minute 60 d.in_hour))
      (rw (j.reads, j.as_second) (lt→ltb d.second 60 d.in_minute))

-- ---- The stamp

or_none : (b : Bool) → (b || false) ≡ b
or_none true = refl
or_none false = refl

in_a_row : (a b c d : Bool) → (a || b || c || d) ≡ (a || (b || (c || d)))
in_a_row true b c d = refl
in_a_row false true c d = refl
in_a_row false false c d = refl

letter_is : (c : ℕ) → season_right Letter c ≡ among (codes "HEhe") c
letter_is c = in_a_row (eqb c 0x48) (eqb c 0x45) (eqb c 0x68) (eqb c 0x65) ∙ sym (rw (or_none (eqb c 0x65)))

space_is : (c : ℕ) → season_right Space c ≡ among (codes " ") c
space_is c = sym (or_none (eqb c SP))

module _ (mark : Mark) (seasons : List ℕ) (season_is : (c : ℕ) → season_right mark c ≡ among seasons c) where
  stamp_dated : (s : List ℕ) → T (stamp_as true mark s) → Dated seasons s
  unfolding stamp_as
  stamp_dated [] t = absurd t
  stamp_dated (x ∷ t) right =
      let (n, u) = and_yes (eqb (length (x ∷ t)) 13) (season_right mark x && date_right (x ∷ t)) right in
      let (season, date) = and_yes (season_right mark x) (date_right (x ∷ t)) u in
      let e = eqb→eq (length (x ∷ t)) 13 n in
      dated seasons x t (omega arith) (subst T (season_is x) season) date

  dated_stamp : (s : List ℕ) → Dated seasons s → T (stamp_as true mark s)
  unfolding stamp_as two
  dated_stamp s d =
      let p = shape seasons s d in
      rw d.written
      (yes_and (season_right mark d.season) (date_right p) (rw (season_is d.season) d.in_season)
      (shape_right seasons s d))

-- a stamp passes the reader's tests exactly when it is written as a right stamp is
pub stamps_agree : (mark : Mark) (s : List ℕ) → T (stamp_right mark s) ↔ RightStamp mark s
unfolding stamp_as
stamps_agree Unstamped s = (λ t. sym (length_zero s (eqb→eq (length s) 0 t)), λ e. rw e tt)
stamps_agree Letter s = (stamp_dated Letter (codes "HEhe") letter_is s, dated_stamp Letter (codes "HEhe") letter_is s)
stamps_agree Space s = (stamp_dated Space (codes " ") space_is s, dated_stamp Space (codes " ") space_is s)
