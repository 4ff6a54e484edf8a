-- What each case of what was heard stands for, given the bytes that its stretches lie in.
use Rattle.std.specs.Prelude.{◌≡◌, refl, List, ℕ, length, take, drop}
use Rattle.std.proofs.Math.Option.{none, some}
use Rattle.characters.specs.Answers.{given, refused}
use Rattle.groups.specs.Groups.{group_of}
use Rattle.groups.proofs.Laws.Shown.{part_inside}
use Rattle.line.specs.Steps.{heard_answer}
use Rattle.line.specs.Views.{FieldsInside}
use Rattle.groups.specs.declared.Fields.{Fields}
use Rattle.line.specs.declared.Notice.{Notice}
use Rattle.line.specs.declared.Heard.TheVariants.{Nothing, Accepted, Told}

-- nothing is no answer
pub heard_nothing : (content : List ℕ) → heard_answer Nothing content ≡ none
unfolding heard_answer
heard_nothing content = refl

-- a notice is itself
pub heard_told : (notice : Notice) (content : List ℕ) → heard_answer (Told notice) content ≡ some (refused notice)
unfolding heard_answer
heard_told notice content = refl

-- an accepted group's fields are the bytes of its stretches, which lie inside the content
pub heard_accepted : (fields : Fields) (content : List ℕ) → length content ≡ 128 → FieldsInside (Accepted fields)
    → heard_answer (Accepted fields) content
    ≡ some (given (group_of (take fields.label.length (drop fields.label.start content))
    (take fields.stamp.length (drop fields.stamp.start content))
    (take fields.«data».length (drop fields.«data».start content))))
unfolding heard_answer
heard_accepted fields content long inside =
    rw (
      part_inside fields.label content (rw long inside.label_inside),
      part_inside fields.stamp content (rw long inside.stamp_inside),
      part_inside fields.«data» content (rw long inside.data_inside),
    )
