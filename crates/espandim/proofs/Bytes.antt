-- A line or a mode that no byte holds is answered as 255 is, which is neither.
use Rattle.std.specs.Prelude.{◌≡◌, List, ℕ, ◌≤◌, min}
use Rattle.std.proofs.Common.{sym, ap, ◌∙◌, arith}
use Rattle.std.proofs.Math.Nat.{min-eq_left, min-eq_right}
use Rattle.groups.specs.Groups.{Group}
use Rattle.groups.specs.Place.{judgement}
use Rattle.groups.specs.Writing.{writing}
use Rattle.groups.proofs.Laws.Tests.{split}
use Rattle.groups.proofs.Laws.Unknown.{writing_no_mode}
use Rattle.station.specs.Records.{Station}
use Rattle.station.specs.Stations.{opening, delivering}
use Rattle.station.proofs.Laws.Refusals.{opening_no_line, opening_no_mode, delivering_no_line}
use Rattle.espandim.proofs.Telling.{no_mode}

-- what is the same of 255 and of each number that no byte holds is the same of a number and of its byte
by_byte : {A : Type 0} (f : ℕ → A) (byte number : ℕ) → byte ≡ min number 255 → (256 ≤ number → f 255 ≡ f number)
    → f byte ≡ f number
by_byte f byte number e h =
    ap f e
    ∙ split 256 number (λ k. ap f (min-eq_right (omega arith)) ∙ h k) (λ k. ap f (min-eq_left (omega arith)))

module _ (s : Station) (line of_line : ℕ) (e : of_line ≡ min line 255) where
  pub opening_byte : (mode of_mode : ℕ) → of_mode ≡ min mode 255 → opening s of_line of_mode ≡ opening s line mode
  opening_byte mode of_mode f =
      by_byte (λ i. opening s i of_mode) of_line line e
      (λ h. opening_no_line s 255 of_mode (omega arith) ∙ sym (opening_no_line s line of_mode (omega arith)))
      ∙ split 8 line (λ h. opening_no_line s line of_mode h ∙ sym (opening_no_line s line mode h)) λ h.
      by_byte (opening s line) of_mode mode f
      (λ k. opening_no_mode s line 255 h (omega arith) ∙ sym (opening_no_mode s line mode h (omega arith)))

  pub delivering_byte : (bytes : List ℕ) → delivering s of_line bytes ≡ delivering s line bytes
  delivering_byte bytes =
      by_byte (λ i. delivering s i bytes) of_line line e
      (λ h. delivering_no_line s 255 bytes (omega arith) ∙ sym (delivering_no_line s line bytes (omega arith)))

module _ (mode of_mode : ℕ) (e : of_mode ≡ min mode 255) where
  pub judgement_byte : (content : List ℕ) → judgement of_mode content ≡ judgement mode content
  judgement_byte content =
      by_byte (λ m. judgement m content) of_mode mode e
      (λ h. sym (no_mode 255 (omega arith) content) ∙ no_mode mode (omega arith) content)

  pub writing_byte : (g : Group) (room : ℕ) → writing of_mode g room ≡ writing mode g room
  writing_byte g room =
      by_byte (λ m. writing m g room) of_mode mode e
      (λ h. writing_no_mode 255 (omega arith) g room ∙ sym (writing_no_mode mode (omega arith) g room))
