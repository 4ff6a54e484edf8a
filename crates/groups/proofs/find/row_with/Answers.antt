-- Std's search finds the row that has the key, or that none has it.
use Rattle.std.proofs.Common.{rules}
use Rattle.std.proofs.lemmas.List.Sorted.{answers_always}
use Rattle.groups.proofs.Search.{found_at, not_found}
use Rattle.groups.proofs.find.row_with.Goals as goal

pub returns-in-Ok : goal.returns-in-Ok
returns-in-Ok g c =
    let by_key = c.in-Ok.ensures.position (λ r. r.key) (answers_always _ _ _ (λ f a r g called. search rules)) in
    found_at _ c.requires c.args.key c.in-Ok.at _ c.in-Ok.ensures.bound by_key

pub returns-in-Err : goal.returns-in-Err
returns-in-Err g c =
    let by_key = c.in-Err.ensures.position (λ r. r.key) (answers_always _ _ _ (λ f a r g called. search rules)) in
    not_found _ c.requires c.args.key _ by_key
