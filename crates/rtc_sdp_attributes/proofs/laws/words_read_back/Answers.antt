use Rattle.rtc_sdp_attributes.proofs.WordLemmas.{word_again, spaceless_again}
use Rattle.rtc_sdp_attributes.proofs.laws.words_read_back.Goals as goal

pub returns : goal.returns
returns c = record { word = word_again; chunk = spaceless_again }
