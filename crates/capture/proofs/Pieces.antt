-- What a line takes of the bytes of a piece, and what is left of it.
use Rattle.std.proofs.Common.{◌≡◌, List, ℕ, ◌-◌, ◌≤◌, ◌<◌, arith, length, take, drop, length-drop, take_all}
use Rattle.line.specs.State.{line_of}
use Rattle.line.specs.Steps.{Fed, fed}
use Rattle.line.proofs.Views.{FedView, fed_view, until_most, until_some}
use Rattle.line.specs.declared.LineState.{LineState}
use Rattle.line.specs.declared.Taken.{Taken}

-- what is left behind so many bytes, as a slice to the end has it
pub rest_is : (bytes : List ℕ) (n : ℕ) → take (length bytes - n) (drop n bytes) ≡ drop n bytes
rest_is bytes n = take_all (length bytes - n) (drop n bytes) (simp length-drop (omega arith))

-- which is less, where at least one is taken
pub rest_less : (bytes : List ℕ) (n : ℕ) → 1 ≤ n → 1 ≤ length bytes → length (take (length bytes - n) (drop n bytes)) < length bytes
rest_less bytes n h k = rw (rest_is bytes n) (simp length-drop (omega arith))

module _ (l : LineState) (content bytes : List ℕ) (long : length content ≡ 128) (taken : Taken) (left : List ℕ)
    (f : Fed (fed 0 l content bytes) taken left) where
  -- what the line took, as the line of document 01 takes it
  pub taken_view : FedView l.mode l.frame 0 (record { result = taken; content = left }) (line_of l content) bytes
  taken_view = rw (f.results, f.leaves) (fed_view 0 l content bytes long)

  -- of some bytes at least one
  pub taken_some : 1 ≤ length bytes → 1 ≤ taken.count
  taken_some h = let some = until_some l.mode (line_of l content) bytes h in omega (arith, taken_view.count_is)

  -- and no more than there are
  pub taken_most : taken.count ≤ length bytes
  taken_most = let most = until_most l.mode (line_of l content) bytes in omega (arith, taken_view.count_is)
