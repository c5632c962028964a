use Rattle.std.proofs.Common.{◌≡◌, ℕ, Bool, false, Option, Result, Ok, Err, sym, ap, subst}
use Rattle.rtc_parts.specs.AssociationMeaning.{AssociationMeaning}
use Rattle.rtc_sctp_entries.specs.declared.asked.Asked.TheVariants.{Done}
use Rattle.rtc_sctp_values.specs.InitHalves.{InitHalves}
use Rattle.rtc_sctp_values.specs.SnapHalves.{begun_halves}
use Rattle.rtc_sctp_values.specs.declared.sctp_error.SctpError.{SctpError}
use Rattle.rtc_sctp.specs.Refusals.{IsRefusedAs, refusal_of_start}
use Rattle.rtc_sctp.specs.Streams.{SctpStreams}
use Rattle.rtc_sctp.specs.Calls.{AsksInit, Inits, begun_state}
use Rattle.rtc_sctp.proofs.RefusalLemmas.{inits_refused}
use Rattle.rtc_sctp.proofs.streams.RtcSctp.init.Goals as goal

-- the streams that begin over an association that was started
abbrev begun_of : {S : Type 0} → Bool → ℕ → Option InitHalves → SctpStreams S → SctpStreams S
begun_of client max snap a = record a { client = client; remote_max = max; state = begun_state snap client; snap = begun_halves snap a.snap; rests = false }

started_begins : {S : Type 0} (m : AssociationMeaning S) (client : Bool) (now max : ℕ) (snap : Option InitHalves) (p a q : SctpStreams S)
    → m.started p.association ≡ false → AsksInit m snap client p.association now max Done a.association
    → a ≡ record p { association = a.association; rests = false } → q ≡ begun_of client max snap a → Inits m client now max snap p (Ok tt) q
started_begins m client now max snap p a q fresh asked others begun =
    subst (λ x. Inits m client now max snap p (Ok tt) x) (sym begun) (fresh, asked, ap (λ y. begun_of client max snap y) others)

pub returns-in-Ok-clause-inits : goal.returns-in-Ok-clause-inits
returns-in-Ok-clause-inits g c =
    rw c.limit_or_default-max.ensures at
    (started_begins g.S.Association.association c.args.client c.args.now c.limit_or_default-max.result c.args.snap c.args.self.now c.start.new.self _
    c.in-Ok.ensures.fresh c.in-Ok.ensures.asked c.in-Ok.ensures.others c.begin.ensures)

pub returns-in-Ok-clause-refused : goal.returns-in-Ok-clause-refused
returns-in-Ok-clause-refused g c =
    inits_refused g.S.Association.association g.met.S.Association.laws c.args.client c.args.now c.limit_or_default-max.result c.args.snap c.args.self.now _ (Ok tt)
    (started_begins g.S.Association.association c.args.client c.args.now c.limit_or_default-max.result c.args.snap c.args.self.now c.start.new.self _
    c.in-Ok.ensures.fresh c.in-Ok.ensures.asked c.in-Ok.ensures.others c.begin.ensures)

pub returns-in-Err-clause-refused : goal.returns-in-Err-clause-refused
returns-in-Err-clause-refused g c =
    let m = g.S.Association.association in
    subst (λ (r : Result (Unit {0}) SctpError). IsRefusedAs (refusal_of_start m c.args.snap c.args.self.now) (m.faults c.args.self.now.association)
    (m.faults c.start.new.self.association) r) (sym c.release.ensures)
    (inits_refused m g.met.S.Association.laws c.args.client c.args.now c.limit_or_default-max.result c.args.snap c.args.self.now c.start.new.self (Err c.in-Err.error) c.in-Err.ensures.refused)
