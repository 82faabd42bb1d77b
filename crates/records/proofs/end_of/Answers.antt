-- A term that stands there ends there.
use Rattle.std.proofs.Common.{◌∙◌}
use Rattle.answer.proofs.Found.{found_some, is_found}
use Rattle.records.proofs.Stands.{stands_end}
use Rattle.records.proofs.end_of.Goals as goal

pub unwrap-requires : goal.unwrap-requires
unwrap-requires c = is_found _ _ (c.term_end.ensures ∙ stands_end _ _ c.requires.tree c.requires.at)

pub returns : goal.returns
returns c e w = let s = found_some _ _ (c.term_end.ensures ∙ stands_end _ _ e w) in cc
