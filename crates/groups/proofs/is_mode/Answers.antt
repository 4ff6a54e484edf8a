-- A number is that of a mode where there is one.
use Rattle.std.proofs.Common.{◌∙◌, ap, is_ok}
use Rattle.groups.specs.Modes.{mode_of}
use Rattle.groups.proofs.Views.{known_is_ok}
use Rattle.groups.proofs.is_mode.Goals as goal

pub returns : goal.returns
returns c = c.is_ok.ensures.value ∙ ap is_ok c.try_from.ensures ∙ known_is_ok (mode_of c.args.number)
