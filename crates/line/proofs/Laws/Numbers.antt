-- Every answer of a line has a number of 1 to 14, and an opening is 0 or 19.
use Rattle.std.specs.Prelude.{◌≡◌, refl, Bool, true, false, List, [], ◌∷◌, ℕ, T, Some, None}
use Rattle.std.proofs.Common.{sym, ◌∙◌, arith}
use Rattle.std.proofs.Math.Option.{Option, none, some}
use Rattle.std.proofs.Math.Facts.{yes_and}
use Rattle.characters.specs.Answers.{Answer, refused, given, every, pick, by_pick}
use Rattle.groups.specs.Kinds.{within}
use Rattle.groups.specs.Modes.{is_mode}
use Rattle.groups.specs.Groups.{Group}
use Rattle.groups.specs.Numbers.{number_of}
use Rattle.groups.specs.Judging.{judging, shown}
use Rattle.groups.specs.Place.{place_of}
use Rattle.groups.proofs.Laws.ByNumber.{judged_number}
use Rattle.groups.specs.declared.Refusal.{Refusal}
use Rattle.line.specs.Rules.{move}
use Rattle.line.specs.Lines.{LineAnswer, State, of_group, verdict, does, step, and_then, answers, outside}
use Rattle.line.specs.Entries.{number_in, place_in}
use Rattle.line.specs.Numbers.{number_of_answer, number_of_opening}
use Rattle.line.specs.Numbers as Numbers
use Rattle.line.specs.State.{line_of, state_of, opening_of}
use Rattle.line.specs.Steps.{heard_answer}
use Rattle.line.proofs.Views.{opened_view}
use Rattle.line.specs.Symbols.{symbol_of}
use Rattle.line.proofs.Laws.Bytes.{step_at}
use Rattle.line.proofs.Laws.Openings.{opening_known, opening_unknown}
use Rattle.line.specs.declared.LineState.{LineState}
use Rattle.line.specs.declared.Heard.{Heard}
use Rattle.line.specs.declared.Heard.TheVariants.{Nothing, Accepted, Told}
use Rattle.line.specs.declared.rules.Symbol.{Symbol}
use Rattle.line.specs.declared.rules.Symbol.TheVariants.{Stx, Etx, Eot, Lf, Cr, Damaged, Text}
use Rattle.line.specs.declared.rules.Phase.{Phase}
use Rattle.line.specs.declared.rules.Phase.TheVariants.{Outside, Frame, Group as InGroup}

-- the number of an answer is one of 1 to 14
abbrev pub is_numbered : LineAnswer → Bool
is_numbered a = within 1 14 (number_of_answer a)

-- where there is an answer
abbrev are_numbered : Option LineAnswer → Bool
are_numbered none = true
are_numbered (some a) = is_numbered a

-- the line's number for the reader's word is the reader's
same_number : (a : Answer Refusal Group) (place : ℕ) → number_of_answer (of_group a place) ≡ number_of (shown a place)
same_number (refused refusal) place = refl
same_number (given g) place = refl

-- a verdict is 7, 8 or the reader's word
verdict_numbered : (mode : ℕ) → is_mode mode ≡ true → (damaged overlong : Bool) (c : List ℕ)
    → T (is_numbered (verdict mode damaged overlong c))
unfolding verdict
verdict_numbered mode k damaged overlong c =
    by_pick (λ (a : LineAnswer). T (is_numbered a)) damaged _ _ (λ t. tt) λ t.
    by_pick (λ (a : LineAnswer). T (is_numbered a)) overlong _ _ (λ u. tt) λ u.
    rw (same_number (judging mode c) (place_of mode c)) (judged_number mode k c)

-- what a symbol does gives no answer, a notice of 2 to 6, or a verdict
does_numbered : (mode : ℕ) → is_mode mode ≡ true → (c : List ℕ) (p : Phase) (y : Symbol)
    → T (are_numbered (does mode c (move p y)).answer)
does_numbered mode k c Outside Stx = tt
does_numbered mode k c Outside Etx = tt
does_numbered mode k c Outside Eot = tt
does_numbered mode k c Outside Lf = tt
does_numbered mode k c Outside Cr = tt
does_numbered mode k c Outside Damaged = tt
does_numbered mode k c Outside (Text x) = tt
does_numbered mode k c (Frame flaw) Stx = tt
does_numbered mode k c (Frame false) Etx = tt
does_numbered mode k c (Frame true) Etx = tt
does_numbered mode k c (Frame flaw) Eot = tt
does_numbered mode k c (Frame flaw) Lf = tt
does_numbered mode k c (Frame flaw) Cr = tt
does_numbered mode k c (Frame flaw) Damaged = tt
does_numbered mode k c (Frame flaw) (Text x) = tt
does_numbered mode k c (InGroup flaw damaged overlong) Stx = tt
does_numbered mode k c (InGroup flaw damaged overlong) Etx = tt
does_numbered mode k c (InGroup flaw damaged overlong) Eot = tt
does_numbered mode k c (InGroup flaw damaged overlong) Lf = tt
does_numbered mode k c (InGroup flaw damaged overlong) Cr = verdict_numbered mode k damaged overlong c
does_numbered mode k c (InGroup flaw damaged overlong) Damaged = tt
does_numbered mode k c (InGroup flaw damaged overlong) (Text x) = tt

-- an answer in front of others
then_numbered : (o : Option LineAnswer) (more : List LineAnswer) → T (are_numbered o) → T (every is_numbered more)
    → T (every is_numbered (and_then o more))
then_numbered none more t u = u
then_numbered (some a) more t u = yes_and (is_numbered a) (every is_numbered more) t u

-- on a line of a known mode every answer, from any state and to any bytes, has a number of 1 to 14
pub all_numbered : (mode : ℕ) → is_mode mode ≡ true → (s : State) (bs : List ℕ)
    → T (every (λ a. within 1 14 (number_of_answer a)) (answers mode s bs))
unfolding answers
all_numbered mode k s [] = tt
all_numbered mode k s (b ∷ bs) =
    then_numbered (step mode s b).answer _
    (rw (step_at mode s b refl) (does_numbered mode k s.content s.phase (symbol_of b)))
    (all_numbered mode k (step mode s b).state bs)

-- an opening is 0 for a known mode, and 19 for any other number
pub opening_numbered : (mode : ℕ) → number_of_opening (opening_of mode) ≡ pick (is_mode mode) 0 19
unfolding opening_of pick
opening_numbered mode = go (is_mode mode)
  where
    go : (known : Bool)
        → number_of_opening (pick known (Some (state_of mode 0 Outside 0)) None) ≡ pick known 0 19
    go true = refl
    go false = refl

-- ---- One number for an answer, whoever tells it

-- with its fields as a sheet shows it, or alone
pub answer_shown : (a : LineAnswer) → number_of_answer a ≡ (Numbers.shown a).number
answer_shown (given g) = refl
answer_shown (refused notice) = refl

-- as the code heard it, by the lent bytes that its stretches lie in
pub heard_number : (h : Heard) (content : List ℕ) → Numbers.number_of h ≡ number_in (Numbers.shown_if (heard_answer h content))
unfolding heard_answer
heard_number Nothing content = refl
heard_number (Accepted fields) content = refl
heard_number (Told notice) content = refl

-- and its place
pub heard_place : (h : Heard) (content : List ℕ) → Numbers.place_of h ≡ place_in (Numbers.shown_if (heard_answer h content))
unfolding heard_answer
heard_place Nothing content = refl
heard_place (Accepted fields) content = refl
heard_place (Told notice) content = refl

-- ---- A line that is opened

pub opened_outside : (mode : ℕ) (l : LineState) (content : List ℕ) → opening_of mode ≡ Some l
    → (line_of l content ≡ outside) × (l.mode ≡ mode) × (l.frame ≡ 0)
opened_outside mode l content q = go (is_mode mode) refl
  where
    go : (known : Bool) → is_mode mode ≡ known → (line_of l content ≡ outside) × (l.mode ≡ mode) × (l.frame ≡ 0)
    go true e =
        let same = sym (opening_known mode e) ∙ q in
        let z : l ≡ state_of mode 0 Outside 0 = cc in
        rw z (opened_view mode 0 content, refl, refl)
    go false e =
        let same = sym (opening_unknown mode e) ∙ q in
        absurd (let z : ◌≡◌ {A = ℕ} 0 1 = cc in omega arith)
