-- A step that hands over an answer, and what its entry says that it leaves.
use Rattle.std.proofs.Common.{not, ◌≡◌, ◌==◌, ℕ, List, [], ◌∷◌, Bool, true, false, ◌&&◌, Option, Some, None, refl, sym, ◌∙◌, ap}
use Rattle.std.specs.Prelude.{slice_get, slice_set}
use Rattle.std.proofs.lemmas.Bool.{and_right}
use Rattle.rtc_parts.specs.declared.dtls_error.DtlsError.TheVariants.{Fault, WouldBlock, Alloc as DtlsAlloc}
use Rattle.rtc_wire.specs.declared.channel_config.ChannelConfig.{ChannelConfig}
use Rattle.rtc_channels.specs.Channels.{Channels, all_confirmed}
use Rattle.rtc_change.specs.PendingOffer.{PendingOffer}
use Rattle.rtc_change.specs.Plans.{asked_by}
use Rattle.rtc_peer_core.specs.Stance.{held_by}
use Rattle.rtc_peer_core.specs.declared.rtc_error.RtcError.{RtcError}
use Rattle.rtc_peer_core.specs.declared.rtc_error.RtcError.TheVariants.{RemoteSdp, Sdp as SdpRefused, Dtls, Sctp, Net, Media as MediaFailed, ChangesOutOfOrder, BadChannel, Alloc as PeerAlloc, Glare}
use Rattle.rtc_peer_core.specs.Calls.{fitting_channels}
use Rattle.rtc_run_history.specs.Signalled.{Signalled, NotMade, Unreadable, Readable}
use Rattle.rtc_run_history.specs.declared.side.Side.{Side}
use Rattle.rtc_run_history.specs.declared.step.Step.{Step}
use Rattle.rtc_run_history.specs.declared.step.Step.TheVariants.{AcceptAnswer, ForeignAnswer}
use Rattle.rtc_run_history.specs.declared.outcome.Outcome.{Outcome}
use Rattle.rtc_run_history.specs.declared.outcome.Outcome.TheVariants.{Finished, Refused, NoSuch, Alloc}
use Rattle.rtc_run_history.specs.declared.table.Table.{Table}
use Rattle.rtc_run_history.specs.Sides.{side_of, other_side}
use Rattle.rtc_run_history.specs.Past.{Entry, MadeSdp, before, channels_shown, channel_rows_or, numbers_in, rows_or, was_called, is_unread, makes, moves, spends}
use Rattle.rtc_run_history.specs.declared.kept.Kept.{Kept}
use Rattle.rtc_run_history.specs.PairState.{token_for, held_token, spent}
use Rattle.rtc_run_laws.proofs.UnreadSdps.{peer_reads, uncalled_unread}
use Rattle.rtc_run_laws.proofs.NumberedChannels.{AreNumbered, same_numbers, all_confirmed_numbered}
use Rattle.rtc_run_laws.proofs.Tells.{Tells, ChannelsTell}
use Rattle.rtc_run_laws.proofs.TokenEntries.{bare, spent_tells}
use Rattle.rtc_run_laws.proofs.Around.{Around, entry, goes_on, channels_next, quiet_tells}
use Rattle.rtc_run_laws.proofs.StanceSteps.{lent, PairStance, StanceShows, StanceStepAcceptsAnswer}

-- a step that hands an answer over with the token of a number moves no side, and spends the token where the call is reached
pub record HandsAnswer (E : Type 0) (t : ℕ) (step : Step) : Type 0 where
  pub moves_none : (side : Side) (outcome : Outcome E) → moves side step outcome ≡ false
  pub spends_are : (u : ℕ) (outcome : Outcome E) → spends u step outcome ≡ ((t == u) && was_called outcome)

pub hands_answer : (E : Type 0) (at : Side) (t a : ℕ) → HandsAnswer E t (AcceptAnswer at t a)
hands_answer E at t a = record { moves_none = λ side outcome. refl; spends_are = λ u outcome. refl }

pub hands_foreign : (E : Type 0) (at : Side) (t : ℕ) (text : List ℕ) → HandsAnswer E t (ForeignAnswer at t text)
hands_foreign E at t text = record { moves_none = λ side outcome. refl; spends_are = λ u outcome. refl }

-- the channels of a side that tells no number
channels_go : {E : Type 0} → (past : List (Entry E)) (step : Step) (t : ℕ) (outcome : Outcome E) (table : Option Table) (made : List MadeSdp) (old new : PairStance) → numbers_in outcome ≡ []
    → AreNumbered [] (old.sides (side_of step)).channels (new.sides (side_of step)).channels → channel_rows_or true table (channels_shown (side_of step) past) ≡ (new.sides (side_of step)).rows → Tells past old
    → ChannelsTell (entry step outcome table made ∷ past) (side_of step) (new.sides (side_of step))
channels_go past step t outcome table made old new none numbered shown tells =
    channels_next past step outcome table made (old.sides (side_of step)) (new.sides (side_of step)) (rw none numbered) shown (tells.sides (side_of step)).channels

-- the peer was delivered nothing
untouched_tells : {E : Type 0} → (past : List (Entry E)) (step : Step) (t : ℕ) (outcome : Outcome E) (table : Option Table) (made : List MadeSdp) (old new : PairStance)
    → HandsAnswer E t step → was_called outcome ≡ false → ((u : ℕ) → makes u outcome ≡ false) → numbers_in outcome ≡ [] → new.sides (side_of step) ≡ old.sides (side_of step) → new.sdps ≡ old.sdps → rows_or true table (before (side_of step) past) ≡ (old.sides (side_of step)).lines
    → channel_rows_or true table (channels_shown (side_of step) past) ≡ (old.sides (side_of step)).rows
    → Around step made old new → Tells past old → Tells (entry step outcome table made ∷ past) new
untouched_tells past step t outcome table made old new hands uncalled unmade none peer kept rows shown around tells =
    quiet_tells false past step outcome table made old new kept (ap (λ p. p.lines) peer ∙ sym rows)
    (channels_go past step t outcome table made old new none (same_numbers (old.sides (side_of step)).channels (new.sides (side_of step)).channels (ap (λ p. p.channels) peer)) (shown ∙ ap (λ p. p.rows) (sym peer)) tells) (ap (λ p. p.counter) peer)
    (hands.moves_none (side_of step) outcome) (hands.moves_none (other_side (side_of step)) outcome) (λ u. hands.spends_are u outcome ∙ and_right (t == u) (was_called outcome) uncalled) unmade around tells

-- the SDP of a token that is held
pub text_found : (at : Side) (found : Option Kept) (token : PendingOffer) → token_for at found ≡ Some token → (kept : Kept) × (found ≡ Some kept)
text_found at None token e = absurd (let f : None ≡ Some token = e in cc)
text_found at (Some kept) token e = (kept, refl)

pub spent-is : (t : ℕ) (sdps : List Kept) (kept : Kept) → slice_get sdps t ≡ Some kept → spent t sdps ≡ slice_set sdps t (bare kept)
spent-is t sdps kept there = rw there refl

pub and_true : (b : Bool) → (b && true) ≡ b
and_true true = refl
and_true false = refl

-- the token is spent
spends_tells : {E : Type 0} → (past : List (Entry E)) (step : Step) (t : ℕ) (token : PendingOffer) (outcome : Outcome E) (table : Table) (made : List MadeSdp) (old new : PairStance)
    → HandsAnswer E t step → held_token old.sdps (side_of step) t ≡ Some token → was_called outcome ≡ true → ((u : ℕ) → makes u outcome ≡ false) → numbers_in outcome ≡ [] → new.sdps ≡ spent t old.sdps
    → (new.sides (side_of step)).counter ≡ (old.sides (side_of step)).counter → StanceShows table (new.sides (side_of step)) → AreNumbered [] (old.sides (side_of step)).channels (new.sides (side_of step)).channels
    → Around step made old new → Tells past old → Tells (entry step outcome (Some table) made ∷ past) new
spends_tells past step t token outcome table made old new hands is was unmade none kept counter shows numbered around tells =
    let found : (kept : Kept) × (slice_get old.sdps t ≡ Some kept) = text_found (side_of step) (slice_get old.sdps t) token is in
    spent_tells past (entry step outcome (Some table) made) old new t found.0
    (goes_on false past step outcome (Some table) made old new (sym shows.lines) (channels_go past step t outcome (Some table) made old new none numbered shows.channels tells) counter (hands.moves_none (side_of step) outcome) (hands.moves_none (other_side (side_of step)) outcome) around)
    found.1 (kept ∙ spent-is t old.sdps found.0 found.1) (λ u. hands.spends_are u outcome ∙ ap (λ b. (t == u) && b) was ∙ and_true (t == u)) unmade tells

-- the peer refused the answer
refused_tells : {E : Type 0} → (past : List (Entry E)) (step : Step) (t : ℕ) (token : PendingOffer) (error : RtcError) (table : Table) (made : List MadeSdp) (old new : PairStance)
    → HandsAnswer E t step → held_token old.sdps (side_of step) t ≡ Some token → new.sdps ≡ spent t old.sdps → is_unread error ≡ false
    → (new.sides (side_of step)).counter ≡ (old.sides (side_of step)).counter → (new.sides (side_of step)).channels ≡ (old.sides (side_of step)).channels → StanceShows table (new.sides (side_of step))
    → Around step made old new → Tells past old → Tells (entry step (Refused error) (Some table) made ∷ past) new
refused_tells past step t token error table made old new hands is kept reached counter channels shows around tells =
    spends_tells past step t token (Refused error) table made old new hands is (ap not reached) (λ u. refl) refl kept counter shows (same_numbers (old.sides (side_of step)).channels (new.sides (side_of step)).channels channels) around tells

-- the channels that an answer confirms keep their numbers
confirmed_by : (held held' : Channels) (channels : List (ℕ × ChannelConfig)) → held' ≡ all_confirmed channels held → AreNumbered [] held held'
confirmed_by held held' channels is = rw is (all_confirmed_numbered channels held)

-- A step that hands over an answer.
pub answer_tells : {E : Type 0} → (past : List (Entry E)) (step : Step) (t : ℕ) (token : Option PendingOffer) (sdp : Signalled) (old new : PairStance) (outcome : Outcome E) (table : Option Table) (made : List MadeSdp)
    → HandsAnswer E t step → held_token old.sdps (side_of step) t ≡ token
    → StanceStepAcceptsAnswer t token sdp (old.sides (side_of step)) old.sdps outcome table (new.sides (side_of step)) new.sdps
    → Around step made old new → Tells past old → Tells (entry step outcome table made ∷ past) new
answer_tells past step t None NotMade old new Alloc None made hands is h around tells =
    untouched_tells past step t Alloc None made old new hands refl (λ u. refl) refl h.peer h.sdps_kept (sym (tells.sides (side_of step)).rows) (sym (tells.sides (side_of step)).channels.shown) around tells
answer_tells past step t None (Unreadable line) old new Alloc None made hands is h around tells =
    untouched_tells past step t Alloc None made old new hands refl (λ u. refl) refl h.peer h.sdps_kept (sym (tells.sides (side_of step)).rows) (sym (tells.sides (side_of step)).channels.shown) around tells
answer_tells past step t None (Readable sdp) old new Alloc None made hands is h around tells =
    untouched_tells past step t Alloc None made old new hands refl (λ u. refl) refl h.peer h.sdps_kept (sym (tells.sides (side_of step)).rows) (sym (tells.sides (side_of step)).channels.shown) around tells
answer_tells past step t (Some token) NotMade old new Alloc None made hands is h around tells =
    untouched_tells past step t Alloc None made old new hands refl (λ u. refl) refl h.peer h.sdps_kept (sym (tells.sides (side_of step)).rows) (sym (tells.sides (side_of step)).channels.shown) around tells
answer_tells past step t (Some token) (Unreadable line) old new Alloc None made hands is h around tells =
    untouched_tells past step t Alloc None made old new hands refl (λ u. refl) refl h.peer h.sdps_kept (sym (tells.sides (side_of step)).rows) (sym (tells.sides (side_of step)).channels.shown) around tells
answer_tells past step t (Some token) (Readable sdp) old new Alloc None made hands is h around tells =
    untouched_tells past step t Alloc None made old new hands refl (λ u. refl) refl h.peer h.sdps_kept (sym (tells.sides (side_of step)).rows) (sym (tells.sides (side_of step)).channels.shown) around tells
answer_tells past step t None NotMade old new NoSuch (Some table) made hands is h around tells =
    untouched_tells past step t NoSuch (Some table) made old new hands refl (λ u. refl) refl h.0.peer h.0.sdps_kept h.1.lines h.1.channels around tells
answer_tells past step t None (Unreadable line) old new NoSuch (Some table) made hands is h around tells =
    untouched_tells past step t NoSuch (Some table) made old new hands refl (λ u. refl) refl h.0.peer h.0.sdps_kept h.1.lines h.1.channels around tells
answer_tells past step t None (Readable sdp) old new NoSuch (Some table) made hands is h around tells =
    untouched_tells past step t NoSuch (Some table) made old new hands refl (λ u. refl) refl h.0.peer h.0.sdps_kept h.1.lines h.1.channels around tells
answer_tells past step t (Some token) NotMade old new NoSuch (Some table) made hands is h around tells =
    untouched_tells past step t NoSuch (Some table) made old new hands refl (λ u. refl) refl h.0.peer h.0.sdps_kept h.1.lines h.1.channels around tells
answer_tells past step t (Some token) (Unreadable line) old new (Refused error) (Some table) made hands is h around tells =
    untouched_tells past step t (Refused error) (Some table) made old new hands (uncalled_unread line error h.0) (λ u. refl) refl h.1.peer h.1.sdps_kept h.2.lines h.2.channels around tells
answer_tells past step t (Some token) (Readable sdp) old new Finished (Some table) made hands is h around tells =
    spends_tells past step t token Finished table made old new hands is refl (λ u. refl) refl h.1 (ap (λ p. p.counter) h.0.rest) h.2 (confirmed_by (old.sides (side_of step)).channels (new.sides (side_of step)).channels (fitting_channels token.changes) (ap (λ p. p.channels) h.0.rest)) around tells
answer_tells past step t (Some token) (Readable sdp) old new (Refused (RemoteSdp why)) (Some table) made hands is h around tells =
    refused_tells past step t token (RemoteSdp why) table made old new hands is h.1 refl (ap (λ p. p.counter) h.0.1.1) (ap (λ p. p.channels) h.0.1.1) h.2 around tells
answer_tells past step t (Some token) (Readable sdp) old new (Refused (SdpRefused error)) (Some table) made hands is h around tells =
    refused_tells past step t token (SdpRefused error) table made old new hands is h.1 (peer_reads (held_by (lent (old.sides (side_of step)))) (Some (asked_by (old.sides (side_of step)).lines token)) sdp error h.0.1.0) (ap (λ p. p.counter) h.0.1.1) (ap (λ p. p.channels) h.0.1.1) h.2 around tells
answer_tells past step t (Some token) (Readable sdp) old new (Refused (Dtls Fault)) (Some table) made hands is h around tells =
    refused_tells past step t token (Dtls Fault) table made old new hands is h.1 refl (ap (λ p. p.counter) h.0.2.rest) (ap (λ p. p.channels) h.0.2.rest) h.2 around tells
answer_tells past step t (Some token) (Readable sdp) old new (Refused (Dtls WouldBlock)) (Some table) made hands is h around tells = absurd h.0
answer_tells past step t (Some token) (Readable sdp) old new (Refused (Dtls DtlsAlloc)) (Some table) made hands is h around tells = absurd h.0
answer_tells past step t (Some token) (Readable sdp) old new (Refused (Sctp error)) (Some table) made hands is h around tells =
    refused_tells past step t token (Sctp error) table made old new hands is h.1 refl (ap (λ p. p.counter) h.0.3.rest) (ap (λ p. p.channels) h.0.3.rest) h.2 around tells
answer_tells past step t (Some token) (Readable sdp) old new (Refused PeerAlloc) (Some table) made hands is h around tells =
    refused_tells past step t token PeerAlloc table made old new hands is h.1 refl (ap (λ p. p.counter) h.0.1.rest) (ap (λ p. p.channels) h.0.1.rest) h.2 around tells
answer_tells past step t (Some token) (Readable sdp) old new (Refused ChangesOutOfOrder) (Some table) made hands is h around tells =
    refused_tells past step t token ChangesOutOfOrder table made old new hands is h.1 refl (ap (λ p. p.counter) h.0.1) (ap (λ p. p.channels) h.0.1) h.2 around tells
answer_tells past step t (Some token) (Readable sdp) old new (Refused (Net cause)) (Some table) made hands is h around tells = absurd h.0
answer_tells past step t (Some token) (Readable sdp) old new (Refused (MediaFailed cause)) (Some table) made hands is h around tells = absurd h.0
answer_tells past step t (Some token) (Readable sdp) old new (Refused BadChannel) (Some table) made hands is h around tells = absurd h.0
answer_tells past step t (Some token) (Readable sdp) old new (Refused Glare) (Some table) made hands is h around tells = absurd h.0
answer_tells past step t token sdp old new outcome table made hands is h around tells = absurd h
