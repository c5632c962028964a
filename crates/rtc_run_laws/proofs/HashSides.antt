-- The name of the hash function that the other side announced has no line feed, whatever steps a side took.
use Rattle.std.proofs.Common.{◌≡◌, ℕ, true, false, List, [], ◌∷◌, Option, Some, None, Result, Ok, Err, refl, sym, ap, subst}
use Rattle.std.specs.Prelude.{IfSome}
use Rattle.std.specs.Option.{option_or}
use Rattle.rtc_sdp_values.specs.Sdp.{sdp_fingerprint}
use Rattle.rtc_sdp_values.specs.declared.fingerprint.Fingerprint.{Fingerprint}
use Rattle.rtc_sdp_values.specs.declared.sdp.Sdp.{Sdp}
use Rattle.rtc_sdp_reader.specs.Reading.{reading}
use Rattle.rtc_sdp_writer.specs.SessionRows.{written_sdp}
use Rattle.rtc_parts.specs.declared.dtls_error.DtlsError.TheVariants.{Fault, WouldBlock, Alloc as DtlsAlloc}
use Rattle.rtc_change.specs.PendingOffer.{PendingOffer}
use Rattle.rtc_peer_core.specs.declared.rtc_error.RtcError.{RtcError}
use Rattle.rtc_peer_core.specs.declared.rtc_error.RtcError.TheVariants.{RemoteSdp, Sdp as SdpRefused, Dtls, Sctp, Net, Media as MediaFailed, ChangesOutOfOrder, BadChannel, Alloc as PeerAlloc, Glare}
use Rattle.rtc_peer_core.specs.Stance.{Stance}
use Rattle.rtc_peer_core.proofs.StanceTaken.{StanceAcceptsAnswer, StanceAcceptsOffer}
use Rattle.rtc_run_history.specs.declared.kept.Kept.{Kept}
use Rattle.rtc_run_history.specs.declared.outcome.Outcome.{Outcome}
use Rattle.rtc_run_history.specs.declared.outcome.Outcome.TheVariants.{Answered, Finished, Refused, NoSuch, Alloc}
use Rattle.rtc_run_history.specs.declared.side.Side.{Side}
use Rattle.rtc_run_history.specs.declared.step.Step.{Step}
use Rattle.rtc_run_history.specs.declared.step.Step.TheVariants.{Negotiate, AcceptOffer, AcceptAnswer, Time, Datagram, Poll, Drain, Write, CloseChannel, Close, Rollback, ForeignOffer, ForeignAnswer, Raw}
use Rattle.rtc_run_history.specs.declared.table.Table.{Table}
use Rattle.rtc_run_history.specs.PairState.{held_token, kept_remote_sdp, sent_sdp}
use Rattle.rtc_run_history.specs.Past.{Entry}
use Rattle.rtc_run_history.specs.Sides.{other_side, side_of}
use Rattle.rtc_run_history.specs.Signalled.{NotMade, Readable, Signalled, Unreadable, arrival, foreign, signalled, signalled_if}
use Rattle.rtc_run_history.proofs.BothSides.{both_sides}
use Rattle.rtc_run_laws.proofs.ReadHashes.{HasLineName, either_named, read_name}
use Rattle.rtc_run_laws.proofs.SeenSteps.{negotiates_keep_side, rollback_keeps}
use Rattle.rtc_run_laws.proofs.StanceRuns.{StanceReached}
use Rattle.rtc_run_laws.proofs.StanceSteps.{PairStance, StanceActs, StanceEnters, StancePerforms, StanceStepAcceptsAnswer, StanceStepAcceptsOffer, lent}

-- ---- what signalling brings

abbrev SaysName : Signalled → Type 0
SaysName (Readable sdp) = IfSome (sdp_fingerprint sdp) HasLineName
SaysName _ = Unit {0}

arrival_says : (read : Result Sdp ℕ) → ((sdp : Sdp) → read ≡ Ok sdp → IfSome (sdp_fingerprint sdp) HasLineName) → SaysName (arrival read)
arrival_says (Ok sdp) named = named sdp refl
arrival_says (Err line) named = tt

foreign_says : (text : List ℕ) → SaysName (foreign text)
unfolding foreign
foreign_says text = arrival_says (reading text) (read_name text)

signalled_says : (sdp : Sdp) → SaysName (signalled sdp)
unfolding signalled
signalled_says sdp = arrival_says (reading (written_sdp sdp)) (read_name (written_sdp sdp))

sent_says : (found : Option Sdp) → SaysName (signalled_if found)
sent_says None = tt
sent_says (Some sdp) = signalled_says sdp

-- ---- sides

-- the fingerprint that the other side announced names its hash function in one line
abbrev pub KnowsLine : Stance → Type 0
KnowsLine s = IfSome s.fingerprint HasLineName

knows_still : (s t : Stance) → t.fingerprint ≡ s.fingerprint → KnowsLine s → KnowsLine t
knows_still s t same known = subst (λ (found : Option Fingerprint). IfSome found HasLineName) (sym same) known

knows_told : (s t : Stance) (sdp : Sdp) → t.fingerprint ≡ option_or s.fingerprint (sdp_fingerprint sdp) → KnowsLine s → SaysName (Readable sdp) → KnowsLine t
knows_told s t sdp is known says =
    subst (λ (found : Option Fingerprint). IfSome found HasLineName) (sym is) (either_named s.fingerprint (sdp_fingerprint sdp) known says)

-- an offer that is refused tells nothing
refused_offer : (s t : Stance) (offer : Sdp) (error : RtcError) → StanceAcceptsOffer s offer (Err error) t → t.fingerprint ≡ s.fingerprint
refused_offer s t offer (RemoteSdp why) h = ap (λ (x : Stance). x.fingerprint) h.1.1
refused_offer s t offer (SdpRefused error) h = ap (λ (x : Stance). x.fingerprint) h.1.1
refused_offer s t offer (Dtls Fault) h = ap (λ (x : Stance). x.fingerprint) h.1.breaks.rest
refused_offer s t offer (Dtls WouldBlock) h = absurd h
refused_offer s t offer (Dtls DtlsAlloc) h = absurd h
refused_offer s t offer (Sctp error) h = ap (λ (x : Stance). x.fingerprint) h.2.breaks.rest
refused_offer s t offer (Net cause) h = absurd h
refused_offer s t offer (MediaFailed cause) h = absurd h
refused_offer s t offer ChangesOutOfOrder h = absurd h
refused_offer s t offer BadChannel h = absurd h
refused_offer s t offer PeerAlloc h = ap (λ (x : Stance). x.fingerprint) h.breaks.rest
refused_offer s t offer Glare h = ap (λ (x : Stance). x.fingerprint) h.1

refused_answer : (s t : Stance) (token : PendingOffer) (answer : Sdp) (error : RtcError) → StanceAcceptsAnswer s token answer (Err error) t → t.fingerprint ≡ s.fingerprint
refused_answer s t token answer (RemoteSdp why) h = ap (λ (x : Stance). x.fingerprint) h.1.1
refused_answer s t token answer (SdpRefused error) h = ap (λ (x : Stance). x.fingerprint) h.1.1
refused_answer s t token answer (Dtls Fault) h = ap (λ (x : Stance). x.fingerprint) h.2.rest
refused_answer s t token answer (Dtls WouldBlock) h = absurd h
refused_answer s t token answer (Dtls DtlsAlloc) h = absurd h
refused_answer s t token answer (Sctp error) h = ap (λ (x : Stance). x.fingerprint) h.3.rest
refused_answer s t token answer (Net cause) h = absurd h
refused_answer s t token answer (MediaFailed cause) h = absurd h
refused_answer s t token answer ChangesOutOfOrder h = ap (λ (x : Stance). x.fingerprint) h.1
refused_answer s t token answer BadChannel h = absurd h
refused_answer s t token answer PeerAlloc h = ap (λ (x : Stance). x.fingerprint) h.1.rest
refused_answer s t token answer Glare h = absurd h

offer_knows : {E : Type 0} → (at : Side) (offer : Signalled) (old new : Stance) (kept kept' : List Kept) (outcome : Outcome E) (table : Option Table)
    → StanceStepAcceptsOffer at offer old kept outcome table new kept' → SaysName offer → KnowsLine old → KnowsLine new
offer_knows at NotMade old new kept kept' Alloc None h says known = knows_still old new (ap (λ (x : Stance). x.fingerprint) h.peer) known
offer_knows at (Unreadable line) old new kept kept' Alloc None h says known = knows_still old new (ap (λ (x : Stance). x.fingerprint) h.peer) known
offer_knows at (Readable sdp) old new kept kept' Alloc None h says known = knows_still old new (ap (λ (x : Stance). x.fingerprint) h.peer) known
offer_knows at NotMade old new kept kept' NoSuch (Some table) h says known = knows_still old new (ap (λ (x : Stance). x.fingerprint) h.0.peer) known
offer_knows at (Unreadable line) old new kept kept' (Refused error) (Some table) h says known = knows_still old new (ap (λ (x : Stance). x.fingerprint) h.1.peer) known
offer_knows at (Readable sdp) old new kept kept' (Answered n) (Some table) h says known =
    knows_told old new sdp (ap (λ (x : Stance). x.fingerprint) h.1.rest) known says
offer_knows at (Readable sdp) old new kept kept' (Refused error) (Some table) h says known = knows_still old new (refused_offer (lent old) new sdp error h.0) known
offer_knows at offer old new kept kept' outcome table h says known = absurd h

answer_knows : {E : Type 0} → (t : ℕ) (token : Option PendingOffer) (answer : Signalled) (old new : Stance) (kept kept' : List Kept) (outcome : Outcome E) (table : Option Table)
    → StanceStepAcceptsAnswer t token answer old kept outcome table new kept' → SaysName answer → KnowsLine old → KnowsLine new
answer_knows t None NotMade old new kept kept' Alloc None h says known = knows_still old new (ap (λ (x : Stance). x.fingerprint) h.peer) known
answer_knows t None (Unreadable line) old new kept kept' Alloc None h says known = knows_still old new (ap (λ (x : Stance). x.fingerprint) h.peer) known
answer_knows t None (Readable sdp) old new kept kept' Alloc None h says known = knows_still old new (ap (λ (x : Stance). x.fingerprint) h.peer) known
answer_knows t (Some token) NotMade old new kept kept' Alloc None h says known = knows_still old new (ap (λ (x : Stance). x.fingerprint) h.peer) known
answer_knows t (Some token) (Unreadable line) old new kept kept' Alloc None h says known = knows_still old new (ap (λ (x : Stance). x.fingerprint) h.peer) known
answer_knows t (Some token) (Readable sdp) old new kept kept' Alloc None h says known = knows_still old new (ap (λ (x : Stance). x.fingerprint) h.peer) known
answer_knows t None NotMade old new kept kept' NoSuch (Some table) h says known = knows_still old new (ap (λ (x : Stance). x.fingerprint) h.0.peer) known
answer_knows t None (Unreadable line) old new kept kept' NoSuch (Some table) h says known = knows_still old new (ap (λ (x : Stance). x.fingerprint) h.0.peer) known
answer_knows t None (Readable sdp) old new kept kept' NoSuch (Some table) h says known = knows_still old new (ap (λ (x : Stance). x.fingerprint) h.0.peer) known
answer_knows t (Some token) NotMade old new kept kept' NoSuch (Some table) h says known = knows_still old new (ap (λ (x : Stance). x.fingerprint) h.0.peer) known
answer_knows t (Some token) (Unreadable line) old new kept kept' (Refused error) (Some table) h says known =
    knows_still old new (ap (λ (x : Stance). x.fingerprint) h.1.peer) known
answer_knows t (Some token) (Readable sdp) old new kept kept' Finished (Some table) h says known =
    knows_told old new sdp (ap (λ (x : Stance). x.fingerprint) h.0.rest) known says
answer_knows t (Some token) (Readable sdp) old new kept kept' (Refused error) (Some table) h says known =
    knows_still old new (refused_answer (lent old) new token sdp error h.0) known
answer_knows t token answer old new kept kept' outcome table h says known = absurd h

-- a side that changes nothing but channels
rest_knows : (old new : Stance) → new ≡ record old { channels = new.channels; rows = new.rows } → KnowsLine old → KnowsLine new
rest_knows old new rest known = knows_still old new (ap (λ (x : Stance). x.fingerprint) rest) known

acts_know : {E : Type 0} → (step : Step) (old new : Stance) (kept kept' : List Kept) (outcome : Outcome E) (table : Option Table)
    → StanceActs step old kept outcome table new kept' → KnowsLine old → KnowsLine new
acts_know (Negotiate at ops apply) old new kept kept' outcome table acts known =
    knows_still old new (negotiates_keep_side at ops apply old new kept kept' outcome table acts).fingerprint known
acts_know (AcceptOffer at k) old new kept kept' outcome table acts known =
    offer_knows at (kept_remote_sdp true kept at k) old new kept kept' outcome table acts (sent_says (sent_sdp true kept at k)) known
acts_know (AcceptAnswer at t a) old new kept kept' outcome table acts known =
    answer_knows t (held_token kept at t) (kept_remote_sdp false kept at a) old new kept kept' outcome table acts (sent_says (sent_sdp false kept at a)) known
acts_know (Rollback at t) old new kept kept' outcome table acts known =
    knows_still old new (rollback_keeps t (held_token kept at t) old new kept kept' outcome table acts).fingerprint known
acts_know (ForeignOffer at text) old new kept kept' outcome table acts known =
    offer_knows at (foreign text) old new kept kept' outcome table acts (foreign_says text) known
acts_know (ForeignAnswer at t text) old new kept kept' outcome table acts known =
    answer_knows t (held_token kept at t) (foreign text) old new kept kept' outcome table acts (foreign_says text) known
acts_know (Raw at bytes now) old new kept kept' outcome table acts known = rest_knows old new acts.peer known
acts_know (Time at now) old new kept kept' outcome table acts known = rest_knows old new acts.peer known
acts_know (Datagram at packet now) old new kept kept' outcome table acts known = rest_knows old new acts.peer known
acts_know (Poll at) old new kept kept' outcome table acts known = rest_knows old new acts.peer known
acts_know (Drain at) old new kept kept' outcome table acts known = rest_knows old new acts.peer known
acts_know (Write at channel binary bytes) old new kept kept' outcome table acts known = rest_knows old new acts.peer known
acts_know (CloseChannel at channel) old new kept kept' outcome table acts known = rest_knows old new acts.peer known
acts_know (Close at) old new kept kept' outcome table acts known = rest_knows old new acts.peer known

-- ---- both sides

performs_know : {E : Type 0} → (old new : PairStance) (step : Step) (outcome : Outcome E) (table : Option Table) → StancePerforms old step outcome table new
    → ((at : Side) → KnowsLine (old.sides at)) → (at : Side) → KnowsLine (new.sides at)
performs_know old new step outcome table performs known =
    let at : Side = side_of step in
    let acts : KnowsLine (new.sides at) = acts_know step (old.sides at) (new.sides at) old.sdps new.sdps outcome table performs.acts (known at) in
    both_sides (λ side. KnowsLine (new.sides side)) at acts (rw performs.other (known (other_side at)))

-- so it is at each side of a pair that steps lead to
pub reached_know : {E : Type 0} → (start pair : PairStance) (past : List (Entry E)) → ((at : Side) → KnowsLine (start.sides at)) → StanceReached start past pair
    → (at : Side) → KnowsLine (pair.sides at)
reached_know start pair [] known reached = let same : pair ≡ start = reached in rw same known
reached_know start pair (last ∷ past) known reached =
    let enters : StanceEnters reached.0 last pair = reached.2 in
    performs_know reached.0 pair last.step last.outcome last.table enters.performs (reached_know start reached.0 past known reached.1)
