use Rattle.rtc_run_laws.proofs.CompletingUses.{closes_in_band}
use Rattle.rtc_run_laws.proofs.CompletingRuns.{closes_from_beginning}
use Rattle.rtc_run_laws.proofs.completing.open_streams_close_before_completion.Goals as goal

pub returns-clause-order : goal.returns-clause-order
returns-clause-order g c = λ p q r t id s label before later b h polled live k.
    closes_from_beginning g.S.Association.association g.met.S.Association.laws id s label before later p q r t b h polled live k

pub returns-clause-in_band : goal.returns-clause-in_band
returns-clause-in_band g c = λ v p q r t id label before later b h had polled band k.
    closes_in_band g.S.Association.association g.met.S.Association.laws v id label before later p q r t b h had polled band k
