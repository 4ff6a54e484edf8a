-- The answers that are due to bytes one after the other: cut anywhere, and up to the first that gives one.
use Rattle.std.specs.Prelude.{◌≡◌, refl, List, [], ◌∷◌, ◌++◌, ℕ, zero, suc, ◌<◌, take, drop}
use Rattle.std.proofs.Common.{sym, append-nil, append_assoc, arith}
use Rattle.std.proofs.Math.Option.{Option, none, some}
use Rattle.std.proofs.Math.Seq.{append_snoc}
use Rattle.characters.specs.Answers.{pick}
use Rattle.groups.specs.declared.Mode.{Mode}
use Rattle.line.specs.Entries.{Entry, framed_if, entry_list, first_entry}
use Rattle.line.specs.ByBytes.{answer_due, frame_number, entry_due, answers_due, is_answered, up_to_answer}

-- two stretches have the answers of the first, and then those of the second behind it
pub due_append : (m : Mode) (before a b : List ℕ)
    → answers_due m before (a ++ b) ≡ answers_due m before a ++ answers_due m (before ++ a) b
unfolding answers_due
due_append m before [] b = rw (append-nil before)
due_append m before (x ∷ a) b =
    rw (due_append m (before ++ x ∷ []) a b, append_snoc before x a)
    (sym (append_assoc (entry_list (entry_due m before x)) (answers_due m (before ++ x ∷ []) a) (answers_due m (before ++ x ∷ a) b)))

-- none have none
pub due_none : (m : Mode) (before : List ℕ) → answers_due m before [] ≡ []
unfolding answers_due
due_none m before = refl

-- up to and including the first byte that gives an answer there is this answer, or none where none does
pub due_first : (m : Mode) (before bs : List ℕ)
    → answers_due m before (take (up_to_answer m before bs) bs) ≡ entry_list (first_entry (answers_due m before bs))
unfolding answers_due up_to_answer pick
due_first m before [] = refl
due_first m before (b ∷ bs) = go (answer_due m before b) refl (due_first m (before ++ b ∷ []) bs)
  where
    n : ℕ
    n = frame_number (before ++ b ∷ [])

    k : ℕ
    k = up_to_answer m (before ++ b ∷ []) bs

    go : (o : Option Entry) → answer_due m before b ≡ o
        → answers_due m (before ++ b ∷ []) (take k bs) ≡ entry_list (first_entry (answers_due m (before ++ b ∷ []) bs))
        → answers_due m before (take (pick (is_answered o) 1 (suc k)) (b ∷ bs))
        ≡ entry_list (first_entry (entry_list (framed_if n o) ++ answers_due m (before ++ b ∷ []) bs))
    go none e h = rw e h
    go (some a) e h = rw e

-- and it is that of the last of these bytes: whatever is left out in front of that one, the others have it
pub due_last : (m : Mode) (before bs : List ℕ) (j : ℕ) → j < up_to_answer m before bs
    → answers_due m (before ++ take j bs) (drop j (take (up_to_answer m before bs) bs))
    ≡ entry_list (first_entry (answers_due m before bs))
unfolding answers_due up_to_answer pick
due_last m before [] j h = absurd (omega arith)
due_last m before (b ∷ bs) zero h = rw (append-nil before) (due_first m before (b ∷ bs))
due_last m before (b ∷ bs) (suc j) h = go (answer_due m before b) refl (due_last m (before ++ b ∷ []) bs j) h
  where
    n : ℕ
    n = frame_number (before ++ b ∷ [])

    k : ℕ
    k = up_to_answer m (before ++ b ∷ []) bs

    go : (o : Option Entry) → answer_due m before b ≡ o
        → (j < k → answers_due m ((before ++ b ∷ []) ++ take j bs) (drop j (take k bs)) ≡ entry_list (first_entry (answers_due m (before ++ b ∷ []) bs)))
        → suc j < pick (is_answered o) 1 (suc k)
        → answers_due m (before ++ b ∷ take j bs) (drop (suc j) (take (pick (is_answered o) 1 (suc k)) (b ∷ bs)))
        ≡ entry_list (first_entry (entry_list (framed_if n o) ++ answers_due m (before ++ b ∷ []) bs))
    go none e more h = rw (append_snoc before b (take j bs)) at (more (omega arith))
    go (some a) e more h = absurd (omega arith)
