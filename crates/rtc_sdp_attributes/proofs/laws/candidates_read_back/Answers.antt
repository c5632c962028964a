use Rattle.rtc_sdp_attributes.proofs.CandidateLemmas.{candidate_again, candidate_lacks}
use Rattle.rtc_sdp_attributes.proofs.laws.candidates_read_back.Goals as goal

pub returns : goal.returns
returns c = record { again = candidate_again; one_line = candidate_lacks }
