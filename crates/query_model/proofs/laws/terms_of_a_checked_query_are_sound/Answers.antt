use Rattle.query_model.proofs.SoundTerms.{terms_are_sound}
use Rattle.query_model.proofs.laws.terms_of_a_checked_query_are_sound.Goals as goal

pub returns : goal.returns
returns c = terms_are_sound
