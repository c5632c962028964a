use Rattle.rtc_peer_laws.proofs.ShownLemmas.{shown_data, shown_on}
use Rattle.rtc_peer_laws.proofs.shown.shown_data_is_of_dtls.Goals as goal

pub returns-clause-calls : goal.returns-clause-calls
returns-clause-calls g c = λ past before after p q came moments wrote heard h did.
    shown_on past did.acts before after p.core.ice q.core.ice p.core.media q.core.media p.core.dtls.packets q.core.dtls.packets h did.went.ice did.went.media
    did.sent

pub returns-clause-data : goal.returns-clause-data
returns-clause-data g c = λ past shown packets ice media h. shown_data past shown packets ice media h
