-- A step that hands over an offer, and what its entry says that it leaves.
use Rattle.std.proofs.Common.{not, ◌≡◌, ◌+◌, ℕ, List, [], ◌∷◌, Bool, true, false, ◌&&◌, ◌||◌, Option, Some, None, refl, sym, ◌∙◌, ap, arith}
use Rattle.std.proofs.lemmas.Bool.{and_left, and_right, or_from}
use Rattle.rtc_parts.specs.declared.dtls_error.DtlsError.TheVariants.{Fault, WouldBlock, Alloc as DtlsAlloc}
use Rattle.rtc_sdp_values.specs.declared.line_row.LineRow.{LineRow}
use Rattle.rtc_channels.specs.declared.channel_row.ChannelRow.{ChannelRow}
use Rattle.rtc_channels.specs.Channels.{Channels}
use Rattle.rtc_peer_core.specs.Stance.{Stance, held_by}
use Rattle.rtc_peer_core.specs.declared.rtc_error.RtcError.{RtcError}
use Rattle.rtc_peer_core.specs.declared.rtc_error.RtcError.TheVariants.{RemoteSdp, Sdp as SdpRefused, Dtls, Sctp, Net, Media as MediaFailed, ChangesOutOfOrder, BadChannel, Alloc as PeerAlloc, Glare}
use Rattle.rtc_peer_core.specs.Calls.{raised}
use Rattle.rtc_run_history.specs.Signalled.{Signalled, NotMade, Unreadable, Readable}
use Rattle.rtc_run_history.specs.declared.side.Side.{Side}
use Rattle.rtc_run_history.specs.declared.step.Step.{Step}
use Rattle.rtc_run_history.specs.declared.step.Step.TheVariants.{AcceptOffer, ForeignOffer}
use Rattle.rtc_run_history.specs.declared.outcome.Outcome.{Outcome}
use Rattle.rtc_run_history.specs.declared.outcome.Outcome.TheVariants.{Answered, Refused, NoSuch, Alloc}
use Rattle.rtc_run_history.specs.declared.table.Table.{Table}
use Rattle.rtc_run_history.specs.Sides.{same_side, other_side, side_of}
use Rattle.rtc_run_history.specs.Past.{Entry, MadeSdp, before, channels_shown, channel_rows_or, numbers_in, rows_or, supersedes, is_unread, is_glare, makes, moves, spends}
use Rattle.rtc_run_history.specs.Performs.{kept_answer}
use Rattle.rtc_run_laws.proofs.UnreadSdps.{peer_reads, uncalled_offer}
use Rattle.rtc_run_laws.proofs.NumberedChannels.{same_numbers}
use Rattle.rtc_run_laws.proofs.Tells.{ChannelsTell, Tells, same_side-self, same_side-other, raised-small}
use Rattle.rtc_run_laws.proofs.Entries.{answered_tells}
use Rattle.rtc_run_laws.proofs.Around.{Around, entry, goes_on, channels_next, quiet_tells}
use Rattle.rtc_run_laws.proofs.StanceSteps.{PairStance, StanceShows, StanceStepAcceptsOffer, lent}

-- a step that hands an offer over moves its side where the offer supersedes, and spends no token
pub record HandsOffer (E : Type 0) (step : Step) : Type 0 where
  pub moves_are : (side : Side) (outcome : Outcome E) → moves side step outcome ≡ (same_side (side_of step) side && supersedes outcome)
  pub spends_none : (t : ℕ) (outcome : Outcome E) → spends t step outcome ≡ false

pub hands_offer : (E : Type 0) (at : Side) (k : ℕ) → HandsOffer E (AcceptOffer at k)
hands_offer E at k = record { moves_are = λ side outcome. refl; spends_none = λ t outcome. refl }

pub hands_foreign : (E : Type 0) (at : Side) (text : List ℕ) → HandsOffer E (ForeignOffer at text)
hands_foreign E at text = record { moves_are = λ side outcome. refl; spends_none = λ t outcome. refl }

-- what a past tells of a side by its entries
abbrev pub told_parts : Stance → List LineRow × Channels × List ChannelRow × ℕ
told_parts s = (s.lines, s.channels, s.rows, s.counter)

here : (at : Side) (b : Bool) → b ≡ true → (same_side at at && b) ≡ true
here at b is = rw (same_side-self at, is) refl

nowhere : (at : Side) (b : Bool) → (same_side at (other_side at) && b) ≡ false
nowhere at b = and_left (same_side at (other_side at)) b (same_side-other at)

-- the channels of a side that tells no number
channels_go : {E : Type 0} → (past : List (Entry E)) (step : Step) (outcome : Outcome E) (table : Option Table) (made : List MadeSdp) (old new : PairStance) → numbers_in outcome ≡ []
    → (new.sides (side_of step)).channels ≡ (old.sides (side_of step)).channels → channel_rows_or true table (channels_shown (side_of step) past) ≡ (new.sides (side_of step)).rows → Tells past old
    → ChannelsTell (entry step outcome table made ∷ past) (side_of step) (new.sides (side_of step))
channels_go past step outcome table made old new none same shown tells =
    let at : Side = side_of step in
    channels_next past step outcome table made (old.sides at) (new.sides at) (rw none (same_numbers (old.sides at).channels (new.sides at).channels same)) shown (tells.sides at).channels

-- the peer was delivered nothing, or refused the offer as glare
untouched_tells : {E : Type 0} → (past : List (Entry E)) (step : Step) (outcome : Outcome E) (table : Option Table) (made : List MadeSdp) (old new : PairStance) → HandsOffer E step
    → supersedes outcome ≡ false → ((t : ℕ) → makes t outcome ≡ false) → numbers_in outcome ≡ [] → told_parts (new.sides (side_of step)) ≡ told_parts (old.sides (side_of step)) → new.sdps ≡ old.sdps
    → rows_or true table (before (side_of step) past) ≡ (old.sides (side_of step)).lines → channel_rows_or true table (channels_shown (side_of step) past) ≡ (old.sides (side_of step)).rows
    → Around step made old new → Tells past old → Tells (entry step outcome table made ∷ past) new
untouched_tells past step outcome table made old new hands uncalled unmade none peer kept rows shown around tells =
    let at : Side = side_of step in
    quiet_tells false past step outcome table made old new kept (ap (λ (c : List LineRow × Channels × List ChannelRow × ℕ). c.0) peer ∙ sym rows)
    (channels_go past step outcome table made old new none (ap (λ (c : List LineRow × Channels × List ChannelRow × ℕ). c.1) peer)
    (shown ∙ sym (ap (λ (c : List LineRow × Channels × List ChannelRow × ℕ). c.2) peer)) tells)
    (ap (λ (c : List LineRow × Channels × List ChannelRow × ℕ). c.3) peer)
    (hands.moves_are at outcome ∙ and_right (same_side at at) (supersedes outcome) uncalled)
    (hands.moves_are (other_side at) outcome ∙ and_right (same_side at (other_side at)) (supersedes outcome) uncalled) (λ t. hands.spends_none t outcome) unmade around tells

-- the counter of a pair that is small rises by one
rises : {E : Type 0} → (past : List (Entry E)) (step : Step) (made : List MadeSdp) (old new : PairStance) → (new.sides (side_of step)).counter ≡ raised (old.sides (side_of step)).counter
    → Around step made old new → Tells past old → (new.sides (side_of step)).counter ≡ (old.sides (side_of step)).counter + 1
rises past step made old new counter around tells =
    counter ∙ raised-small (old.sides (side_of step)).counter old.size (tells.sides (side_of step)).counts (omega (arith, around.size, around.small))

-- the peer refused the offer
refused_tells : {E : Type 0} → (past : List (Entry E)) (step : Step) (error : RtcError) (table : Table) (made : List MadeSdp) (old new : PairStance) → HandsOffer E step
    → (is_unread error || is_glare error) ≡ false → (new.sides (side_of step)).counter ≡ raised (old.sides (side_of step)).counter → (new.sides (side_of step)).channels ≡ (old.sides (side_of step)).channels
    → new.sdps ≡ old.sdps → StanceShows table (new.sides (side_of step)) → Around step made old new → Tells past old → Tells (entry step (Refused error) (Some table) made ∷ past) new
refused_tells {E} past step error table made old new hands reached counter channels kept shows around tells =
    let at : Side = side_of step in
    quiet_tells true past step (Refused error) (Some table) made old new kept (sym shows.lines)
    (channels_go past step (Refused error) (Some table) made old new refl channels shows.channels tells) (rises past step made old new counter around tells)
    (hands.moves_are at (Refused error) ∙ here at (not (is_unread error || is_glare error)) (ap not reached))
    (hands.moves_are (other_side at) (Refused error) ∙ nowhere at (not (is_unread error || is_glare error))) (λ t. hands.spends_none t (Refused error)) (λ t. refl) around tells

-- A step that hands over an offer.
pub offer_tells : {E : Type 0} → (past : List (Entry E)) (step : Step) (offer : Signalled) (old new : PairStance) (outcome : Outcome E) (table : Option Table) (made : List MadeSdp) → HandsOffer E step
    → StanceStepAcceptsOffer (side_of step) offer (old.sides (side_of step)) old.sdps outcome table (new.sides (side_of step)) new.sdps
    → Around step made old new → Tells past old → Tells (entry step outcome table made ∷ past) new
offer_tells past step NotMade old new Alloc None made hands h around tells =
    untouched_tells past step Alloc None made old new hands refl (λ t. refl) refl (ap told_parts h.peer) h.sdps_kept (sym (tells.sides (side_of step)).rows) (sym (tells.sides (side_of step)).channels.shown) around tells
offer_tells past step (Unreadable line) old new Alloc None made hands h around tells =
    untouched_tells past step Alloc None made old new hands refl (λ t. refl) refl (ap told_parts h.peer) h.sdps_kept (sym (tells.sides (side_of step)).rows) (sym (tells.sides (side_of step)).channels.shown) around tells
offer_tells past step (Readable sdp) old new Alloc None made hands h around tells =
    untouched_tells past step Alloc None made old new hands refl (λ t. refl) refl (ap told_parts h.peer) h.sdps_kept (sym (tells.sides (side_of step)).rows) (sym (tells.sides (side_of step)).channels.shown) around tells
offer_tells past step NotMade old new NoSuch (Some table) made hands h around tells =
    untouched_tells past step NoSuch (Some table) made old new hands refl (λ t. refl) refl (ap told_parts h.0.peer) h.0.sdps_kept h.1.lines h.1.channels around tells
offer_tells past step (Unreadable line) old new (Refused error) (Some table) made hands h around tells =
    untouched_tells past step (Refused error) (Some table) made old new hands (uncalled_offer line error h.0) (λ t. refl) refl (ap told_parts h.1.peer) h.1.sdps_kept h.2.lines h.2.channels around tells
offer_tells past step (Readable sdp) old new (Refused (RemoteSdp why)) (Some table) made hands h around tells =
    refused_tells past step (RemoteSdp why) table made old new hands refl (ap (λ p. p.counter) h.0.1.1) (ap (λ p. p.channels) h.0.1.1) h.1 h.2 around tells
offer_tells past step (Readable sdp) old new (Refused (SdpRefused error)) (Some table) made hands h around tells =
    refused_tells past step (SdpRefused error) table made old new hands (or_from (is_unread (SdpRefused error)) false (peer_reads (held_by (lent (old.sides (side_of step)))) None sdp error h.0.1.0) refl) (ap (λ p. p.counter) h.0.1.1) (ap (λ p. p.channels) h.0.1.1) h.1 h.2 around tells
offer_tells past step (Readable sdp) old new (Refused (Dtls Fault)) (Some table) made hands h around tells =
    refused_tells past step (Dtls Fault) table made old new hands refl (ap (λ p. p.counter) h.0.1.breaks.rest) (ap (λ p. p.channels) h.0.1.breaks.rest) h.1 h.2 around tells
offer_tells past step (Readable sdp) old new (Refused (Dtls WouldBlock)) (Some table) made hands h around tells = absurd h.0
offer_tells past step (Readable sdp) old new (Refused (Dtls DtlsAlloc)) (Some table) made hands h around tells = absurd h.0
offer_tells past step (Readable sdp) old new (Refused (Sctp error)) (Some table) made hands h around tells =
    refused_tells past step (Sctp error) table made old new hands refl (ap (λ p. p.counter) h.0.2.breaks.rest) (ap (λ p. p.channels) h.0.2.breaks.rest) h.1 h.2 around tells
offer_tells past step (Readable sdp) old new (Refused PeerAlloc) (Some table) made hands h around tells =
    refused_tells past step (PeerAlloc) table made old new hands refl (ap (λ p. p.counter) h.0.breaks.rest) (ap (λ p. p.channels) h.0.breaks.rest) h.1 h.2 around tells
offer_tells past step (Readable sdp) old new (Refused ChangesOutOfOrder) (Some table) made hands h around tells = absurd h.0
offer_tells past step (Readable sdp) old new (Refused (Net cause)) (Some table) made hands h around tells = absurd h.0
offer_tells past step (Readable sdp) old new (Refused (MediaFailed cause)) (Some table) made hands h around tells = absurd h.0
offer_tells past step (Readable sdp) old new (Refused BadChannel) (Some table) made hands h around tells = absurd h.0
offer_tells past step (Readable sdp) old new (Refused Glare) (Some table) made hands h around tells =
    untouched_tells past step (Refused Glare) (Some table) made old new hands refl (λ t. refl) refl (ap told_parts h.0.1) h.1 (h.2.lines ∙ ap (λ p. p.lines) h.0.1) (h.2.channels ∙ ap (λ p. p.rows) h.0.1) around tells
offer_tells past step (Readable sdp) old new (Answered n) (Some table) made hands h around tells =
    let at : Side = side_of step in
    answered_tells past (entry step (Answered n) (Some table) made) old new (kept_answer at h.0)
    (goes_on true past step (Answered n) (Some table) made old new (sym h.4.lines)
    (channels_go past step (Answered n) (Some table) made old new refl (ap (λ p. p.channels) h.1.rest) h.4.channels tells)
    (rises past step made old new (ap (λ p. p.counter) h.1.rest) around tells) (hands.moves_are at (Answered n) ∙ here at true refl) (hands.moves_are (other_side at) (Answered n) ∙ nowhere at true) around)
    refl refl h.2 (λ t. hands.spends_none t (Answered n)) (λ t. refl) tells
offer_tells past step offer old new outcome table made hands h around tells = absurd h
