-- The stretches that judging shows are the fields, and lie inside the content.
use Rattle.std.proofs.Common.{◌≡◌, Bool, ℕ, zero, suc, ◌+◌, ◌≤◌, ◌<◌, T, length, take, drop, get_or, Ok, sym, ap, ◌∙◌, subst, arith, le→leb, length-drop, take_at, drop_at, take-take, length-take-le, get_or-take, get_or-drop, List, [], ◌∷◌, ◌++◌, append_assoc, refl, true, false, length-append}
use Rattle.std.proofs.lemmas.Bool.{lt-leb}
use Rattle.characters.specs.Answers.{Answer, refused, given, found_given, pick, pick_yes}
use Rattle.groups.specs.Modes.{separator}
use Rattle.groups.specs.Formats.{Rule}
use Rattle.groups.specs.Stamps.{is_stamped, stamp_as}
use Rattle.groups.specs.Groups.{Group, content, body}
use Rattle.groups.specs.Judging.{judging, stamp_span, stamp_stretch, places_of, shown, stretches_of, part_of, part_start, Shows, Inside}
use Rattle.groups.specs.Place.{place_of, judgement}
use Rattle.groups.specs.Inside.{RightFields, stamp_room}
use Rattle.groups.proofs.Laws.Groups.{length_zero, stamp_length, body_length, content_length, read_given}
use Rattle.groups.specs.declared.Mode.{Mode}
use Rattle.groups.specs.declared.Refusal.{Refusal}
use Rattle.groups.specs.declared.Stretch.{Stretch}
use Rattle.groups.specs.declared.table.Mark.{Mark}

-- the stretch behind a, as long as p, of a text that is a, then p, then b
part_is : (c a p b : List ℕ) (start n : ℕ) → c ≡ a ++ (p ++ b) → length a ≡ start → length p ≡ n
    → part_of (record { start = start; length = n }) c ≡ p
unfolding part_of
part_is c a p b start n e h k =
    let fits : start + n ≤ length (a ++ (p ++ b)) = simp length-append (omega arith) in
    rw e (pick_yes _ _ _ (le→leb _ _ fits) ∙ rw (drop_at a (p ++ b) start h) (take_at p b n k))

module _ (m : Mode) (l s d t : List ℕ) (k : Mark) where
  -- of label, body and what follows, the stretch of the stamp is the stamp
  stamp_is : (b : Bool) → T (stamp_as b k s)
      → part_of (stamp_stretch (length l + 1) (length s)) (l ++ separator m ∷ (body m b s d ++ t)) ≡ s
  unfolding body stamp_stretch pick
  stamp_is false q = rw (← (length_zero s (stamp_length false k s q))) (part_is _ [] [] _ 0 0 refl refl refl)
  stamp_is true q =
      let n = stamp_length true k s q in
      rw n
      (part_is _ (l ++ separator m ∷ []) s (separator m ∷ (d ++ t)) _ 13 (simp append_assoc) (simp length-append) n)

  -- and the stretch of the data is the data
  data_is : (b : Bool) → T (stamp_as b k s)
      → part_of (record { start = length l + 1 + stamp_span (length s); length = length d })
      (l ++ separator m ∷ (body m b s d ++ t))
      ≡ d
  unfolding body stamp_span pick
  data_is false q =
      rw (stamp_length false k s q)
      (part_is _ (l ++ separator m ∷ []) d t _ _ (simp append_assoc) (simp length-append (omega arith)) refl)
  data_is true q =
      let n = stamp_length true k s q in
      rw n
      (part_is _ (l ++ separator m ∷ (s ++ separator m ∷ [])) d t _ _ (simp append_assoc)
      (simp length-append (omega arith)) refl)

-- the content of a group, and what is shown of the group
content_shows : (m : Mode) (g : Group) (r : Rule) → RightFields r g.stamp g.«data»
    → Shows (content m g.label (body m (is_stamped r.mark) g.stamp g.«data»)) (places_of g) g
unfolding content
content_shows m g r f =
    record {
      label_shown = part_is _ [] g.label _ 0 _ refl refl refl;
      stamp_shown = stamp_is m g.label g.stamp g.«data» _ r.mark (is_stamped r.mark) f.stamp_is_right;
      data_shown = data_is m g.label g.stamp g.«data» _ r.mark (is_stamped r.mark) f.stamp_is_right;
    }

-- what judging shows of a content that it accepts are the fields
pub shows : (number : ℕ) (c : List ℕ) (g : Group) → judging number c ≡ given g → (judgement number c ≡ Ok (places_of g)) × Shows c (places_of g) g
unfolding judging
shows number c g e =
    let (m, em, h) = found_given _ _ _ e in
    let i = read_given m c g h in
    (ap (λ (a : Answer Refusal Group). shown a (place_of number c)) e, subst (λ (c : List ℕ). Shows c (places_of g) g) i.whole (content_shows m g i.rule i.fields))

-- ---- Inside the content

-- what is shown of a group, in any n bytes that have room for label, body and three characters more
group_inside : (g : Group) (b : Bool) (n : ℕ) → length g.stamp ≡ pick b 13 0
    → n ≡ length g.label + (stamp_room b + length g.«data») + 3
    → Inside n (places_of g)
unfolding stamp_stretch stamp_span pick
group_inside g false n s h =
    record {
      label_inside = omega arith;
      stamp_inside = rw s (omega arith);
      data_inside = rw s (omega arith);
      all_short = rw s (omega arith);
    }
group_inside g true n s h =
    record {
      label_inside = omega arith;
      stamp_inside = rw s (omega arith);
      data_inside = rw s (omega arith);
      all_short = rw s (omega arith);
    }

-- the content of a group, and what is shown of the group
content_inside : (m : Mode) (g : Group) (r : Rule) → RightFields r g.stamp g.«data»
    → Inside (length (content m g.label (body m (is_stamped r.mark) g.stamp g.«data»))) (places_of g)
content_inside m g r f =
    let b = is_stamped r.mark in
    let k = body_length m b r.mark g.stamp g.«data» f.stamp_is_right in
    group_inside g b _ (stamp_length b r.mark g.stamp f.stamp_is_right)
    (omega (arith, k, content_length m g.label (body m b g.stamp g.«data»)))

-- what judging shows of a content lies inside it
pub shown_inside : (number : ℕ) (c : List ℕ) → Inside (length c) (stretches_of (judgement number c))
unfolding judging
shown_inside number c = go (judging number c) refl
  where
    go : (a : Answer Refusal Group) → judging number c ≡ a → Inside (length c) (stretches_of (shown a (place_of number c)))
    go (refused refusal) e =
        record {
          label_inside = omega arith;
          stamp_inside = omega arith;
          data_inside = omega arith;
          all_short = omega arith;
        }
    go (given g) e =
        let (m, em, h) = found_given _ _ _ e in
        let i = read_given m c g h in
        subst (λ (c : List ℕ). Inside (length c) (places_of g)) i.whole (content_inside m g i.rule i.fields)

-- ---- A stretch inside the first n bytes

-- the first n bytes have the same bytes from a start on, up to the n-th
front_part : (start k n : ℕ) (c : List ℕ) → start + k ≤ n → take k (drop start (take n c)) ≡ take k (drop start c)
front_part zero k n c h = take-take k n c (omega arith)
front_part (suc start) k zero c h = absurd (omega arith)
front_part (suc start) k (suc n) [] h = refl
front_part (suc start) k (suc n) (x ∷ c) h = front_part start k n c (omega arith)

-- a stretch inside the first n bytes names the same bytes in the whole
pub part_of_more : (s : Stretch) (n : ℕ) (c : List ℕ) → s.start + s.length ≤ n → n ≤ length c
    → part_of s (take n c) ≡ part_of s c
unfolding part_of
part_of_more s n c h k =
    let fits : s.start + s.length ≤ length (take n c) = rw (length-take-le n c k) h in
    let fits_all : s.start + s.length ≤ length c = omega arith in
    pick_yes _ _ _ (le→leb _ _ fits)
    ∙ front_part s.start s.length n c h
    ∙ sym (pick_yes _ _ _ (le→leb _ _ fits_all))

-- a stretch that lies inside the bytes names as many as it is long, from its start on
pub part_inside : (s : Stretch) (c : List ℕ) → s.start + s.length ≤ length c
    → part_of s c ≡ take s.length (drop s.start c)
unfolding part_of
part_inside s c h = pick_yes _ _ _ (le→leb _ _ h)

-- ---- A part, byte by byte

pub part_fits : (s : Stretch) (c : List ℕ) → s.start + s.length ≤ length c
    → (length (part_of s c) ≡ s.length) × (part_start s c ≡ s.start)
    × ((i : ℕ) → i < s.length → get_or (part_of s c) i 0 ≡ get_or c (s.start + i) 0)
unfolding part_start
part_fits s c h =
    let e = part_inside s c h in
    let n : s.length ≤ length (drop s.start c) = rw length-drop (omega arith) in (
      rw (e, length-take-le s.length (drop s.start c) n),
      pick_yes _ _ _ (le→leb _ _ h),
      λ i k. rw (e, get_or-take s.length (drop s.start c) i 0 k, get_or-drop s.start c i 0),
    )

pub part_unfit : (s : Stretch) (c : List ℕ) → length c < s.start + s.length → (part_of s c ≡ []) × (part_start s c ≡ 0)
unfolding part_of part_start pick
part_unfit s c h = let e = lt-leb (s.start + s.length) (length c) h in (rw e, rw e)
