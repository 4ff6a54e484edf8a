-- How long a content is that is accepted.
use Rattle.std.proofs.Common.{◌≡◌, List, ℕ, ◌≤◌, length, leb→le}
use Rattle.characters.specs.Answers.{given, need_given}
use Rattle.groups.specs.Groups.{Group, read}
use Rattle.groups.specs.Judging.{judging}
use Rattle.groups.proofs.Laws.ByNumber.{judged_in}

module _ (number : ℕ) (c : List ℕ) (g : Group) where
  -- what is accepted has at most 128 characters
  pub judged_short : judging number c ≡ given g → length c ≤ 128
  unfolding read
  judged_short e = let (m, k, h) = (judged_in number c g).0 e in leb→le (length c) 128 (need_given _ _ _ h).0
