use Rattle.rtc_plain_dtls.proofs.DataLemmas.{got_came, taken_sent}
use Rattle.rtc_plain_dtls.proofs.data.data_is_faithful.Goals as goal

pub returns : goal.returns
returns c = record { got = got_came; taken = taken_sent }
