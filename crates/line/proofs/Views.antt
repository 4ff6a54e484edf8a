-- What bytes do to the numbers and the lent bytes of a line, on every value, is what they do to document 01's line.
use Rattle.std.specs.Prelude.{◌≡◌, refl, Bool, true, false, ◌||◌, List, [], ◌∷◌, ◌++◌, ℕ, suc, ◌+◌, ◌≤◌, ltb, min, length, take, set}
use Rattle.std.proofs.Common.{sym, ◌∙◌, arith, add-one, length-set, take-suc-set, length-take-le, ltb-true}
use Rattle.std.proofs.Math.Option.{Option, none, some}
use Rattle.std.proofs.lemmas.List.{take_min}
use mir.Val.{bool_byte}
use Rattle.characters.specs.Answers.{Answer, refused, given, pick}
use Rattle.groups.specs.Groups.{Group}
use Rattle.groups.specs.Judging.{judging, places_of, shown, part_of, Shows, Inside}
use Rattle.groups.specs.Place.{place_of, judgement}
use Rattle.groups.proofs.Laws.Shown.{shows, shown_inside, part_of_more}
use Rattle.groups.specs.declared.Refusal.{Refusal}
use Rattle.line.specs.Symbols.{symbol_of}
use Rattle.line.specs.Rules.{move}
use Rattle.line.specs.Lines.{
  LineAnswer,
  State,
  Step,
  held_by,
  added,
  of_group,
  verdict,
  ended,
  does,
  step,
  after,
  answers,
  listed,
  outside,
  onward,
  until_answer,
}
use Rattle.line.specs.FrameNumbers.{frame_at, frame_after}
use Rattle.line.specs.State.{is_set, phase_of, held_in, line_of, state_of}
use Rattle.line.specs.Steps.{
  heard_answer,
  heard_from,
  heard_of,
  ended_of,
  quiet_of,
  After,
  acted,
  stepped,
  FedTo,
  fed_on,
  fed,
}
use Rattle.line.specs.Views.{FieldsInside}
use Rattle.line.specs.declared.LineState.{LineState}
use Rattle.line.specs.declared.Heard.{Heard}
use Rattle.line.specs.declared.Heard.TheVariants.{Nothing, Accepted, Told}
use Rattle.line.specs.declared.rules.Phase.{Phase}
use Rattle.line.specs.declared.rules.Phase.TheVariants.{Outside, Frame, Group as InGroup}
use Rattle.line.specs.declared.rules.Symbol.{Symbol}
use Rattle.line.specs.declared.rules.Symbol.TheVariants.{Stx, Etx, Eot, Lf, Cr, Damaged, Text}
use Rattle.line.specs.declared.rules.Move.{Move}
use Rattle.line.specs.declared.rules.Move.TheVariants.{Quiet, Opens, Says, Adds, Judges}

-- ---- The numbers of a line, and back

-- a mark that is written reads as it was
mark_back : (b : Bool) → is_set (bool_byte b) ≡ b
mark_back true = refl
mark_back false = refl

-- and so does a phase
pub phase_back : (mode frame : ℕ) (p : Phase) (n : ℕ) → phase_of (state_of mode frame p n) ≡ p
unfolding phase_of pick
phase_back mode frame Outside n = refl
phase_back mode frame (Frame flaw) n = rw (mark_back flaw)
phase_back mode frame (InGroup flaw damaged overlong) n = rw (mark_back flaw, mark_back damaged, mark_back overlong)

-- no more than 128 characters are held
pub held_most : (l : LineState) → held_in l ≤ 128
unfolding held_in
held_most l = omega arith

-- of 128 bytes, as many as the capped number says are as many as the number says
take_capped : (n : ℕ) (g : List ℕ) → length g ≡ 128 → take (min n 128) g ≡ take n g
take_capped n g e = rw (← e) (take_min n g)

-- the numbers of a line in a phase stand for the line in this phase
pub state_back : (mode frame : ℕ) (p : Phase) (n : ℕ) (g : List ℕ) → length g ≡ 128
    → line_of (state_of mode frame p n) g ≡ record { phase = p; content = held_by p (take n g) }
unfolding line_of phase_of held_in pick
state_back mode frame Outside n g e = refl
state_back mode frame (Frame flaw) n g e = rw (mark_back flaw)
state_back mode frame (InGroup flaw damaged overlong) n g e =
    rw (mark_back flaw, mark_back damaged, mark_back overlong, take_capped n g e)

-- a line that was just opened is outside, whatever the lent bytes are
pub opened_view : (mode frame : ℕ) (g : List ℕ) → line_of (state_of mode frame Outside 0) g ≡ outside
unfolding line_of phase_of pick
opened_view mode frame g = refl

-- the mode is written as it is
pub mode_kept : (mode frame : ℕ) (p : Phase) (n : ℕ) → (state_of mode frame p n).mode ≡ mode
mode_kept mode frame Outside n = refl
mode_kept mode frame (Frame flaw) n = refl
mode_kept mode frame (InGroup flaw damaged overlong) n = refl

-- and so is the frame number
pub frame_kept : (mode frame : ℕ) (p : Phase) (n : ℕ) → (state_of mode frame p n).frame ≡ frame
frame_kept mode frame Outside n = refl
frame_kept mode frame (Frame flaw) n = refl
frame_kept mode frame (InGroup flaw damaged overlong) n = refl

-- of no content, a line in any phase holds none
held_none : (p : Phase) → held_by p [] ≡ []
held_none Outside = refl
held_none (Frame flaw) = refl
held_none (InGroup flaw damaged overlong) = refl

-- ---- One byte

-- what a byte does to the numbers and the lent bytes is what it does to the line that they stand for: 128 lent bytes
-- again, the mode kept, the frame number, the line, the answer; and an accepted group's fields lie in the lent bytes
pub record StepView (mode frame : ℕ) (a : After) (s : Step) : Type 0 where
  pub long : length a.content ≡ 128
  pub same_mode : a.line.mode ≡ mode
  pub frame_is : a.line.frame ≡ frame
  pub line_is : line_of a.line a.content ≡ s.state
  pub answer_is : heard_answer a.heard a.content ≡ s.answer
  pub inside : FieldsInside a.heard

-- what was heard of a group that is complete, and the answer that it is
record JudgedAs (h : Heard) (g : List ℕ) (a : LineAnswer) : Type 0 where
  told : heard_answer h g ≡ some a
  fits : FieldsInside h

-- what the groups' reader shows of the first n lent bytes is what it says of them
shown_view : (mode n : ℕ) (g : List ℕ) → length g ≡ 128 → n ≤ 128
    → JudgedAs (heard_from (judgement mode (take n g))) g (of_group (judging mode (take n g)) (place_of mode (take n g)))
unfolding heard_answer
shown_view mode n g e k = go (judging mode (take n g)) refl
  where
    at : ℕ
    at = place_of mode (take n g)

    go : (a : Answer Refusal Group) → judging mode (take n g) ≡ a
        → JudgedAs (heard_from (shown a at)) g (of_group a at)
    go (refused refusal) q = record { told = refl; fits = tt }
    go (given w) q =
        let j = places_of w in
        let s : Shows (take n g) j w = (shows mode (take n g) w q).1 in
        let i : Inside n j = rw (q, length-take-le n g (omega arith)) at (shown_inside mode (take n g)) in
        let label : part_of j.label g ≡ w.label =
        sym (part_of_more j.label n g i.label_inside (omega arith)) ∙ s.label_shown in
        let stamp : part_of j.stamp g ≡ w.stamp =
        sym (part_of_more j.stamp n g i.stamp_inside (omega arith)) ∙ s.stamp_shown in
        let text : part_of j.«data» g ≡ w.«data» =
        sym (part_of_more j.«data» n g i.data_inside (omega arith)) ∙ s.data_shown in
        record {
          told = rw (label, stamp, text);
          fits =
              record {
                label_inside = omega arith;
                stamp_inside = omega arith;
                data_inside = omega arith;
                all_short = omega arith;
              };
        }

-- what is heard of a complete group is the answer to it
verdict_view : (mode : ℕ) (damaged overlong : Bool) (n : ℕ) (g : List ℕ) → length g ≡ 128 → n ≤ 128
    → JudgedAs (heard_of mode damaged overlong (take n g)) g (verdict mode damaged overlong (take n g))
unfolding heard_of verdict heard_answer pick
verdict_view mode true overlong n g e k = record { told = refl; fits = tt }
verdict_view mode false true n g e k = record { told = refl; fits = tt }
verdict_view mode false false n g e k = shown_view mode n g e k

-- an accepted group leaves the flaw as it was
or_false : (b : Bool) → b || false ≡ b
or_false true = refl
or_false false = refl

-- a refused one sets it
or_true : (b : Bool) → b || true ≡ true
or_true true = refl
or_true false = refl

-- a group that is judged: the line is in the frame, and the answer is given
ended_view : (mode frame : ℕ) (flaw : Bool) (h : Heard) (g : List ℕ) (a : LineAnswer) → length g ≡ 128 → JudgedAs h g a
    → StepView mode frame (ended_of mode frame flaw h g) (ended flaw a)
unfolding heard_answer
ended_view mode frame flaw Nothing g a e v = let z : ◌≡◌ {A = ℕ} 0 1 = cc v.told in absurd (omega arith)
ended_view mode frame flaw (Accepted fields) g (refused notice) e v =
    let z : ◌≡◌ {A = ℕ} 0 1 = cc v.told in absurd (omega arith)
ended_view mode frame flaw (Accepted fields) g (given w) e v =
    record {
      long = e;
      same_mode = refl;
      frame_is = refl;
      line_is = rw (or_false flaw) (state_back mode frame (Frame flaw) 0 g e);
      answer_is = v.told;
      inside = v.fits;
    }
ended_view mode frame flaw (Told notice) g (refused other) e v =
    record {
      long = e;
      same_mode = refl;
      frame_is = refl;
      line_is = rw (or_true flaw) (state_back mode frame (Frame true) 0 g e);
      answer_is = v.told;
      inside = tt;
    }
ended_view mode frame flaw (Told notice) g (given w) e v =
    let z : ◌≡◌ {A = ℕ} 0 1 = cc v.told in absurd (omega arith)

-- a character that is added to the n characters of the group
added_view : (mode frame : ℕ) (flaw damaged overlong : Bool) (n c : ℕ) (g : List ℕ) → length g ≡ 128 → n ≤ 128
    → StepView mode frame (acted mode frame n g (Adds flaw damaged overlong c))
    (record { state = added flaw damaged overlong (take n g) c; answer = none })
unfolding added heard_answer pick
added_view mode frame flaw damaged overlong n c g e k = rw (length-take-le n g (omega arith)) (go (ltb n 128) refl)
  where
    go : (t : Bool) → ltb n 128 ≡ t
        → StepView mode frame
        (pick t
        (quiet_of mode frame (InGroup flaw damaged overlong) (n + 1) (set g n c))
        (quiet_of mode frame (InGroup flaw damaged true) n g))
        (record {
          state =
              pick t
              (record { phase = InGroup flaw damaged overlong; content = take n g ++ c ∷ [] })
              (record { phase = InGroup flaw damaged true; content = take n g });
          answer = none;
        })
    go true q =
        let h = ltb-true n 128 q in
        let long = length-set g n c ∙ e in
        record {
          long = long;
          same_mode = refl;
          frame_is = refl;
          line_is =
              state_back mode frame (InGroup flaw damaged overlong) (n + 1) (set g n c) long
              ∙ rw (add-one n, take-suc-set g n c (omega arith));
          answer_is = refl;
          inside = tt;
        }
    go false q =
        record {
          long = e;
          same_mode = refl;
          frame_is = refl;
          line_is = state_back mode frame (InGroup flaw damaged true) n g e;
          answer_is = refl;
          inside = tt;
        }

-- what a move does, in a line with n characters of content
act_view : (mode frame n : ℕ) (g : List ℕ) (x : Move) → length g ≡ 128 → n ≤ 128
    → StepView mode frame (acted mode frame n g x) (does mode (take n g) x)
unfolding heard_answer
act_view mode frame n g (Quiet p) e k =
    record {
      long = e;
      same_mode = mode_kept mode frame p n;
      frame_is = frame_kept mode frame p n;
      line_is = state_back mode frame p n g e;
      answer_is = refl;
      inside = tt;
    }
act_view mode frame n g (Opens flaw) e k =
    record {
      long = e;
      same_mode = refl;
      frame_is = refl;
      line_is = state_back mode frame (InGroup flaw false false) 0 g e;
      answer_is = refl;
      inside = tt;
    }
act_view mode frame n g (Says p notice) e k =
    record {
      long = e;
      same_mode = mode_kept mode frame p 0;
      frame_is = frame_kept mode frame p 0;
      line_is = state_back mode frame p 0 g e ∙ rw (held_none p);
      answer_is = refl;
      inside = tt;
    }
act_view mode frame n g (Adds flaw damaged overlong c) e k = added_view mode frame flaw damaged overlong n c g e k
act_view mode frame n g (Judges flaw damaged overlong) e k =
    ended_view mode frame flaw (heard_of mode damaged overlong (take n g)) g _ e (verdict_view mode damaged overlong n g e k)

-- a move asks for content only in a group
move_held : (mode : ℕ) (p : Phase) (y : Symbol) (c : List ℕ)
    → does mode (held_by p c) (move p y) ≡ does mode c (move p y)
move_held mode Outside Stx c = refl
move_held mode Outside Etx c = refl
move_held mode Outside Eot c = refl
move_held mode Outside Lf c = refl
move_held mode Outside Cr c = refl
move_held mode Outside Damaged c = refl
move_held mode Outside (Text x) c = refl
move_held mode (Frame flaw) Stx c = refl
move_held mode (Frame flaw) Etx c = refl
move_held mode (Frame flaw) Eot c = refl
move_held mode (Frame flaw) Lf c = refl
move_held mode (Frame flaw) Cr c = refl
move_held mode (Frame flaw) Damaged c = refl
move_held mode (Frame flaw) (Text x) c = refl
move_held mode (InGroup flaw damaged overlong) y c = refl

-- a byte does to any numbers and 128 lent bytes what it does to the line that they stand for
pub step_view : (l : LineState) (g : List ℕ) (b : ℕ) → length g ≡ 128
    → StepView l.mode (frame_at l.frame (symbol_of b)) (stepped l g b) (step l.mode (line_of l g) b)
unfolding stepped step line_of
step_view l g b e =
    rw (move_held l.mode (phase_of l) (symbol_of b) (take (held_in l) g))
    (act_view l.mode (frame_at l.frame (symbol_of b)) (held_in l) g (move (phase_of l) (symbol_of b)) e (held_most l))

-- ---- A stretch of bytes

-- what bytes do to the numbers and the lent bytes, n bytes having been taken before, is what they do, up to the first
-- that gives an answer, to the line and to its frame number
pub record FedView (mode frame n : ℕ) (f : FedTo) (s : State) (bs : List ℕ) : Type 0 where
  pub long : length f.content ≡ 128
  pub same_mode : f.result.line.mode ≡ mode
  pub frame_is : f.result.line.frame ≡ frame_after frame (take (until_answer mode s bs) bs)
  pub count_is : f.result.count ≡ n + until_answer mode s bs
  pub line_is : line_of f.result.line f.content ≡ after mode s (take (until_answer mode s bs) bs)
  pub answers_are : listed (heard_answer f.result.heard f.content)
      ≡ answers mode s (take (until_answer mode s bs) bs)
  pub inside : FieldsInside f.result.heard

-- a byte that gives an answer ends the stretch
fed_here : (mode frame n : ℕ) (x : After) (s : State) (b : ℕ) (bs : List ℕ) (a : LineAnswer)
    → StepView mode (frame_at frame (symbol_of b)) x (step mode s b)
    → heard_answer x.heard x.content ≡ some a
    → FedView mode frame n
    (record {
      result = record { line = x.line; count = n + 1; heard = x.heard };
      content = x.content;
    })
    s (b ∷ bs)
unfolding until_answer after answers frame_after
fed_here mode frame n x s b bs a v t =
    let q : (step mode s b).answer ≡ some a = sym v.answer_is ∙ t in
    record {
      long = v.long;
      same_mode = v.same_mode;
      frame_is = rw q v.frame_is;
      count_is = rw q;
      line_is = rw q v.line_is;
      answers_are = rw (q, q, t);
      inside = v.inside;
    }

-- a byte, and the bytes behind it
fed_more : (mode frame n : ℕ) (l : LineState) (h : Heard) (g : List ℕ) (s : State) (b : ℕ) (bs : List ℕ) (more : FedTo)
    → StepView mode (frame_at frame (symbol_of b)) (record { line = l; heard = h; content = g })
    (step mode s b)
    → FedView mode (frame_at frame (symbol_of b)) (n + 1) more (step mode s b).state bs
    → FedView mode frame n (fed_on h l (n + 1) g more) s (b ∷ bs)
unfolding until_answer after answers heard_answer frame_after
fed_more mode frame n l Nothing g s b bs more v m =
    let q : (step mode s b).answer ≡ none = sym v.answer_is in
    record {
      long = m.long;
      same_mode = m.same_mode;
      frame_is = rw q m.frame_is;
      count_is = rw q (omega (arith, m.count_is));
      line_is = rw q m.line_is;
      answers_are = rw (q, q) m.answers_are;
      inside = m.inside;
    }
fed_more mode frame n l (Accepted fields) g s b bs more v m = fed_here mode frame n _ s b bs _ v refl
fed_more mode frame n l (Told notice) g s b bs more v m = fed_here mode frame n _ s b bs _ v refl

-- the bytes of a stretch, up to the first that gives an answer, do what they do to the line
pub fed_view : (n : ℕ) (l : LineState) (g bs : List ℕ) → length g ≡ 128
    → FedView l.mode l.frame n (fed n l g bs) (line_of l g) bs
unfolding fed until_answer after answers heard_answer frame_after
fed_view n l g [] e =
    record {
      long = e;
      same_mode = refl;
      frame_is = refl;
      count_is = omega arith;
      line_is = refl;
      answers_are = refl;
      inside = tt;
    }
fed_view n l g (b ∷ bs) e =
    let a = stepped l g b in
    let v = step_view l g b e in
    let m = fed_view (n + 1) a.line a.content bs v.long in
    fed_more l.mode l.frame n a.line a.heard a.content (line_of l g) b bs _ v
    (rw (v.same_mode, v.frame_is, v.line_is) at m)

-- ---- How many bytes a stretch takes

-- a byte and the count of those behind it are no more than a byte and all behind it
onward_most : (o : Option LineAnswer) (k n : ℕ) → k ≤ n → onward o k ≤ suc n
onward_most none k n h = omega arith
onward_most (some a) k n h = omega arith

-- a byte counts itself
onward_some : (o : Option LineAnswer) (k : ℕ) → 1 ≤ onward o k
onward_some none k = omega arith
onward_some (some a) k = omega arith

-- a stretch takes no more bytes than there are
pub until_most : (mode : ℕ) (s : State) (bs : List ℕ) → until_answer mode s bs ≤ length bs
unfolding until_answer
until_most mode s [] = omega arith
until_most mode s (b ∷ bs) =
    onward_most (step mode s b).answer _ (length bs) (until_most mode (step mode s b).state bs)

-- and, where there are bytes, at least one
pub until_some : (mode : ℕ) (s : State) (bs : List ℕ) → 1 ≤ length bs → 1 ≤ until_answer mode s bs
unfolding until_answer
until_some mode s [] h = absurd (omega arith)
until_some mode s (b ∷ bs) h = onward_some (step mode s b).answer _
