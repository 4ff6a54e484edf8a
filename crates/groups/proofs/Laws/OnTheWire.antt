-- A content that is written is HT and characters of 0x20 to 0x7E, and it comes off the wire as it went on.
use Rattle.std.proofs.Common.{◌≡◌, refl, Bool, true, false, ◌&&◌, ◌||◌, List, [], ◌∷◌, ◌++◌, map, ℕ, zero, suc, ◌+◌, ◌-◌, ◌≤◌, ◌<◌, T, leb, ltb, eqb, length, drop, sym, subst, ⊎_elim, arith, leb→le, le→leb, ltb→lt, lt→ltb, eqb→eq, length-append, take_at}
use Rattle.std.proofs.lemmas.List.{length-map}
use Rattle.std.proofs.Math.Facts.{and_yes, yes_and, or_yes}
use Rattle.characters.specs.Answers.{given, every, every_weaker, every_joined, from_true, by_pick}
use Rattle.characters.specs.Wire.{wire_byte_of, character_of, is_sound, HT, LF, CR, SP}
use Rattle.characters.proofs.WireLaws.{wire_sound, wire_character, control_wires}
use Rattle.groups.specs.Modes.{separator}
use Rattle.groups.specs.Kinds.{within, of_kind}
use Rattle.groups.specs.Forms.{Form, takes, last_of, matches, has_length, fits, some_fits}
use Rattle.groups.specs.Formats.{forms}
use Rattle.groups.specs.Stamps.{is_stamped, stamp_as, season_right, date_right}
use Rattle.groups.specs.Fields.{kind_right}
use Rattle.groups.specs.Groups.{Group, check, content, body, compose}
use Rattle.groups.specs.Writing.{on_the_wire, off_the_wire}
use Rattle.groups.proofs.Laws.Table.{plain_form, listed_right}
use Rattle.groups.proofs.Laws.Groups.{compose_given}
use Rattle.groups.specs.declared.Mode.{Mode}
use Rattle.groups.specs.declared.Mode.TheVariants.{Historic, Standard, Business}
use Rattle.groups.specs.declared.table.Kind.{Kind}
use Rattle.groups.specs.declared.table.Kind.TheVariants.{Digits, Hex, Text}
use Rattle.groups.specs.declared.table.Mark.{Mark}
use Rattle.groups.specs.declared.table.Mark.TheVariants.{Unstamped, Letter, Space}

-- ---- Every character that is written is HT or one of 0x20 to 0x7E

-- HT, or one of 0x20 to 0x7E, so no other control character; and a text of such
abbrev pub is_plain : ℕ → Bool
is_plain x = eqb x HT || within 0x20 0x7E x

abbrev pub are_plain : List ℕ → Bool
are_plain c = every is_plain c

-- of two tests the second
second : (a b : Bool) → T b → T (a || b)
second true b t = tt
second false b t = t

-- what is between two of 0x20 to 0x7E is one of them
within_plain : (low high x : ℕ) → 0x20 ≤ low → high ≤ 0x7E → T (within low high x) → T (is_plain x)
within_plain low high x h k t =
    let (u, v) = and_yes (leb low x) (leb x high) t in
    second (eqb x HT) (within 0x20 0x7E x)
    (yes_and (leb 0x20 x) (leb x 0x7E) (le→leb 0x20 x (omega (arith, leb→le low x u)))
    (le→leb x 0x7E (omega (arith, leb→le x high v))))

-- a character of a kind is one of them
pub of_kind_plain : (k : Kind) (x : ℕ) → T (of_kind k x) → T (is_plain x)
of_kind_plain Digits x t = within_plain 0x30 0x39 x (omega arith) (omega arith) t
of_kind_plain Hex x t =
    ⊎_elim (within_plain 0x30 0x39 x (omega arith) (omega arith)) (within_plain 0x41 0x46 x (omega arith) (omega arith))
    (or_yes (within 0x30 0x39 x) (within 0x41 0x46 x) t)
of_kind_plain Text x t = within_plain 0x20 0x7E x (omega arith) (omega arith) t

-- so is what a picture takes that has none but them
abbrev Plain : ℕ → Bool → Type 0
Plain x b = T b → T (is_plain x)

takes_plain : (p x : ℕ) → T (within 0x20 0x7E p) → T (takes p x) → T (is_plain x)
unfolding takes
takes_plain p x w t =
    by_pick (Plain x) (eqb p 0x39) _ _ (λ u. of_kind_plain Digits x)
    (λ u. by_pick (Plain x) (eqb p 0x30) _ _ (λ u. of_kind_plain Hex x)
    (λ u. by_pick (Plain x) (eqb p 0x2A) _ _ (λ u. of_kind_plain Text x)
    (λ u. by_pick (Plain x) (eqb p 0x2C) (eqb x 0x2C || eqb x 0x2E) (eqb x p)
    (λ u t. ⊎_elim (λ v. rw (eqb→eq x 0x2C v) tt) (λ v. rw (eqb→eq x 0x2E v) tt) (or_yes (eqb x 0x2C) (eqb x 0x2E) t))
    (λ u t. subst (λ (z : ℕ). T (is_plain z)) (sym (eqb→eq x p t)) (within_plain 0x20 0x7E p (omega arith) (omega arith) w))))) t

match_plain : (p d : List ℕ) → T (every (within 0x20 0x7E) p) → T (matches p d) → T (are_plain d)
unfolding matches
match_plain [] [] w t = tt
match_plain [] (x ∷ d) w t = absurd t
match_plain (q ∷ p) [] w t = tt
match_plain (q ∷ p) (x ∷ d) w t =
    let v = and_yes (within 0x20 0x7E q) (every (within 0x20 0x7E) p) w in
    let u = and_yes (takes q x) (matches p d) t in
    yes_and (is_plain x) (are_plain d) (takes_plain q x v.0 u.0) (match_plain p d v.1 u.1)

every_drop : (f : ℕ → Bool) (n : ℕ) (xs : List ℕ) → T (every f xs) → T (every f (drop n xs))
every_drop f zero xs t = t
every_drop f (suc n) [] t = tt
every_drop f (suc n) (x ∷ xs) t = every_drop f n xs (and_yes (f x) (every f xs) t).1

some_plain : (fs : List Form) (d : List ℕ) → T (every plain_form fs) → T (some_fits fs d) → T (are_plain d)
unfolding some_fits fits
some_plain [] d w t = absurd t
some_plain (f ∷ fs) d w t =
    let v = and_yes (plain_form f) (every plain_form fs) w in
    let end = last_of (length d) f.picture in
    ⊎_elim (λ u. match_plain end d (every_drop (within 0x20 0x7E) (length f.picture - length d) f.picture v.0)
    (and_yes (has_length f (length d)) (matches end d) u).1)
    (λ u. some_plain fs d v.1 u) (or_yes (fits f d) (some_fits fs d) t)

-- one that passes a test, or is this one of them
or_plain : (test : Bool) (x y : ℕ) → T (is_plain y) → (T test → T (is_plain x)) → T (test || eqb x y) → T (is_plain x)
or_plain test x y p f t = ⊎_elim f (λ u. rw (eqb→eq x y u) p) (or_yes test (eqb x y) t)

-- so is a season
season_plain : (k : Mark) (x : ℕ) → T (season_right k x) → T (is_plain x)
season_plain Unstamped x t = absurd t
season_plain Letter x t =
    or_plain (eqb x 0x48 || eqb x 0x45 || eqb x 0x68) x 0x65 tt
    (or_plain (eqb x 0x48 || eqb x 0x45) x 0x68 tt
    (or_plain (eqb x 0x48) x 0x45 tt (λ u. rw (eqb→eq x 0x48 u) tt))) t
season_plain Space x t = rw (eqb→eq x SP t) tt

-- a separator is one of them or HT
separator_plain : (m : Mode) → T (is_plain (separator m))
separator_plain Historic = tt
separator_plain Standard = tt
separator_plain Business = tt

-- and a check character is one of them
check_plain : (m : Mode) (l b : List ℕ) → T (is_plain (check m l b))
unfolding check
check_plain m l b =
    let k = check m l b in
    second (eqb k HT) (within 0x20 0x7E k)
    (yes_and (leb 0x20 k) (leb k 0x7E) (le→leb 0x20 k (omega arith)) (le→leb k 0x7E (omega arith)))

-- of tests in a row the first
first_of : (a b c d e f : Bool) → T (a && b && c && d && e && f) → T a
first_of true b c d e f t = tt
first_of false b c d e f t = absurd t

-- a right date is digits
date_digits : (s : List ℕ) → T (date_right s) → T (every (of_kind Digits) (drop 1 s))
unfolding date_right
date_digits s t = first_of (every (of_kind Digits) (drop 1 s)) _ _ _ _ _ t

-- a right stamp is such characters
stamp_plain : (k : Mark) (s : List ℕ) → T (stamp_as true k s) → T (are_plain s)
unfolding stamp_as
stamp_plain k [] t = tt
stamp_plain k (x ∷ s) t =
    let h = and_yes (season_right k x) (date_right (x ∷ s)) (and_yes (eqb (length (x ∷ s)) 13) _ t).1 in
    yes_and (is_plain x) (are_plain s) (season_plain k x h.0)
    (every_weaker (of_kind Digits) is_plain (of_kind_plain Digits) s (date_digits (x ∷ s) h.1))

-- so is a body of right stamp and such data
body_plain : (m : Mode) (b : Bool) (k : Mark) (s d : List ℕ) → T (stamp_as b k s) → T (are_plain d)
    → T (are_plain (body m b s d))
unfolding body
body_plain m false k s d t u = u
body_plain m true k s d t u =
    every_joined is_plain s (separator m ∷ d) (stamp_plain k s t)
    (yes_and (is_plain (separator m)) (are_plain d) (separator_plain m) u)

-- so is a content of such a label and such a body
content_plain : (m : Mode) (l b : List ℕ) → T (are_plain l) → T (are_plain b) → T (are_plain (content m l b))
unfolding content
content_plain m l b t u =
    every_joined is_plain l _ t
    (yes_and (is_plain (separator m)) _ (separator_plain m)
    (every_joined is_plain b _ u
    (yes_and (is_plain (separator m)) _ (separator_plain m)
    (yes_and (is_plain (check m l b)) true (check_plain m l b) tt))))

-- so is every content that is written
pub written_plain : (m : Mode) (g : Group) (c : List ℕ) → compose m g ≡ given c → T (are_plain c)
unfolding kind_right
written_plain m g c e =
    let i = compose_given m c g e in
    let k = i.rule.mark in
    let row = listed_right m g.label i.rule i.listed in
    subst (λ (c : List ℕ). T (are_plain c)) i.whole
    (content_plain m g.label _
    (every_weaker _ is_plain (λ x t. within_plain 0x21 0x7E x (omega arith) (omega arith) t) g.label row.plain_label)
    (body_plain m (is_stamped k) k g.stamp g.«data» i.fields.stamp_is_right
    (some_plain (forms i.rule.formats) g.«data» row.plain_forms i.fields.kind_is_right)))

-- ---- And so below 128

-- a number below 128, and a text of such
abbrev pub is_character : ℕ → Bool
is_character x = ltb x 128

abbrev pub are_characters : List ℕ → Bool
are_characters c = every is_character c

-- HT and 0x20 to 0x7E are below 128
pub plain_below : (x : ℕ) → T (is_plain x) → x < 128
plain_below x t =
    ⊎_elim (λ u. omega (arith, eqb→eq x HT u))
    (λ u. omega (arith, leb→le x 0x7E (and_yes (leb 0x20 x) (leb x 0x7E) u).1))
    (or_yes (eqb x HT) (within 0x20 0x7E x) t)

-- every content that is written is characters below 128
pub written_small : (m : Mode) (g : Group) (c : List ℕ) → compose m g ≡ given c → T (are_characters c)
written_small m g c e =
    every_weaker is_plain is_character (λ x t. lt→ltb x 128 (plain_below x t)) c (written_plain m g c e)

-- ---- On the wire and off it

-- LF, the content's wire bytes, CR
pub on_is : (c : List ℕ) → on_the_wire c ≡ wire_byte_of LF ∷ (map wire_byte_of c ++ wire_byte_of CR ∷ [])
unfolding on_the_wire
on_is c = refl

-- the same with the bytes that LF and CR have on the wire
pub on_bytes : (c : List ℕ) → on_the_wire c ≡ 0x0A ∷ (map wire_byte_of c ++ 0x8D ∷ [])
on_bytes c = rw (on_is c, control_wires.4, control_wires.5)

-- two bytes more than the content
pub on_length : (c : List ℕ) → length (on_the_wire c) ≡ length c + 2
unfolding on_the_wire
on_length c = simp (length-append, length-map) (omega arith)

-- characters come back from their wire bytes
read_back : (c : List ℕ) → T (are_characters c) → map character_of (map wire_byte_of c) ≡ c
read_back [] t = refl
read_back (x ∷ c) t =
    let h = and_yes (is_character x) (are_characters c) t in
    let p = wire_character x (ltb→lt x 128 h.0) in
    let q = read_back c h.1 in
    cc

-- a content of characters below 128 comes off the wire as it went on
pub off_on : (c : List ℕ) → T (are_characters c) → off_the_wire (on_the_wire c) ≡ c
unfolding on_the_wire
off_on c t =
    let w = map wire_byte_of c in
    let e : suc (length (w ++ wire_byte_of CR ∷ [])) - 2 ≡ length w = simp length-append (omega arith) in
    rw (e, take_at w (wire_byte_of CR ∷ []) (length w) refl) (read_back c t)

-- wire bytes of characters are sound
all_sound : (c : List ℕ) → T (every is_sound (map wire_byte_of c))
all_sound [] = tt
all_sound (x ∷ c) =
    yes_and (is_sound (wire_byte_of x)) (every is_sound (map wire_byte_of c)) (from_true (wire_sound x)) (all_sound c)

-- whatever goes on the wire is sound
pub on_sound : (c : List ℕ) → T (every is_sound (on_the_wire c))
unfolding on_the_wire
on_sound c =
    yes_and (is_sound (wire_byte_of LF)) _ (from_true (wire_sound LF))
    (every_joined is_sound (map wire_byte_of c) (wire_byte_of CR ∷ []) (all_sound c) (all_sound (CR ∷ [])))
