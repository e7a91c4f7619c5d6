use Rattle.sf_laws.proofs.StageLemmas.{holds_sound, collected_keeps}
use Rattle.sf_laws.proofs.turns.a_collection_gives_what_was_promised.Goals as goal

pub returns : goal.returns
returns c = record { law = λ options sessions x s promise sound has is none. (collected_keeps options sessions x s promise (holds_sound options sessions x sound) has is none).size }
