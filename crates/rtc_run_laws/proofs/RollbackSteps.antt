-- A step that rolls an offer back, and what its entry says that it leaves.
use Rattle.std.proofs.Common.{◌≡◌, ◌≤◌, ◌<◌, ◌^◌, ◌==◌, ℕ, List, [], ◌∷◌, Bool, true, false, Option, Some, None, Ok, refl, sym, ◌∙◌, ap, arith}
use Rattle.std.specs.Prelude.{slice_get, is_some}
use Rattle.std.proofs.lemmas.Bool.{and_right}
use Rattle.rtc_channels.specs.Channels.{Channels}
use Rattle.rtc_channels.specs.Holds.{all_cancelled}
use Rattle.rtc_change.specs.PendingOffer.{PendingOffer, new_channels}
use Rattle.rtc_peer_core.specs.Stance.{Stance}
use Rattle.rtc_peer_core.specs.declared.rtc_error.RtcError.TheVariants.{RemoteSdp, Sdp as SdpRefused, Dtls, Sctp, Net, Media as MediaFailed, ChangesOutOfOrder, BadChannel, Alloc as PeerAlloc, Glare}
use Rattle.rtc_peer_core.proofs.StanceRollbacks.{StanceRollsBack}
use Rattle.rtc_run_history.specs.declared.side.Side.{Side}
use Rattle.rtc_run_history.specs.declared.step.Step.TheVariants.{Rollback}
use Rattle.rtc_run_history.specs.declared.outcome.Outcome.{Outcome}
use Rattle.rtc_run_history.specs.declared.outcome.Outcome.TheVariants.{Done, Refused, NoSuch, Alloc}
use Rattle.rtc_run_history.specs.declared.table.Table.{Table}
use Rattle.rtc_run_history.specs.Past.{Entry, MadeSdp, before, channels_shown, channel_rows_or, is_right, numbers_in, rows_or, was_rolled_back, makes}
use Rattle.rtc_run_history.specs.Sound.{RepliesToRollback, IsSound}
use Rattle.rtc_run_history.specs.Undone.{table_shown, table_undone}
use Rattle.rtc_run_history.specs.Views.{Stances}
use Rattle.rtc_run_history.specs.declared.kept.Kept.{Kept}
use Rattle.rtc_run_history.specs.PairState.{token_for, held_token}
use Rattle.rtc_run_laws.proofs.AnswerSteps.{now_right, not_right}
use Rattle.rtc_run_laws.proofs.AnswerTells.{text_found, spent-is, and_true}
use Rattle.rtc_run_laws.proofs.NumberedChannels.{AreNumbered, same_numbers, all_cancelled_numbered}
use Rattle.rtc_run_laws.proofs.Tells.{ChannelsTell, Tells, TokenTells, raised-small}
use Rattle.rtc_run_laws.proofs.TokenEntries.{spent_tells}
use Rattle.rtc_run_laws.proofs.RolledTokens.{rolled_tells}
use Rattle.rtc_run_laws.proofs.Around.{Around, entry, goes_on, channels_next, quiet_tells, size_grows}
use Rattle.rtc_run_laws.proofs.StanceSteps.{PairStance, LeavesRows, StanceShows, StanceStepRollsBack, lent}

-- ---- the reply

-- the table that a side shows is that of its lines and channels
pub same_tables : (one other : Table) → one.lines ≡ other.lines → one.channels ≡ other.channels → one ≡ other
same_tables one other lines channels =
    ap (λ l. record { lines = l; channels = one.channels }) lines ∙ ap (λ c. record { lines = other.lines; channels = c }) channels

rollback_by : {E : Type 0} → (held held' right right' : Bool) (earlier undone table : Table) (outcome : Outcome E) → held' ≡ held → right' ≡ right
    → RepliesToRollback held right earlier undone outcome table → RepliesToRollback held' right' earlier undone outcome table
rollback_by held held' right right' earlier undone table outcome same_held same_right takes = rw (same_held, same_right) takes

unheld_reply : (E : Type 0) (right : Bool) (earlier undone table : Table) → table ≡ earlier → RepliesToRollback {E = E} false right earlier undone NoSuch table
unheld_reply E true earlier undone table e = e
unheld_reply E false earlier undone table e = e

-- What is rolled back by a token that is right is what the past says.
abbrev pub IsUndone : {E : Type 0} → List (Entry E) → Side → ℕ → Option PendingOffer → Stance → Type 0
IsUndone past at t None old = Unit {0}
IsUndone past at t (Some token) old = is_right at t past ≡ true → (new : Stance) (table : Table) → StanceRollsBack (lent old) token (Ok tt) new → LeavesRows token old new
    → StanceShows table new → table ≡ table_undone at t past

pub rollback_reply : {E : Type 0} → (fresh between : Stances) (past : List (Entry E)) (at : Side) (t size : ℕ) (found : Option Kept) (token : Option PendingOffer) (old new : Stance) (kept kept' : List Kept) (outcome : Outcome E) (table : Option Table) (made : List MadeSdp)
    → token_for at found ≡ token → TokenTells past at old.counter t found → old.counter ≤ size → size < 2 ^ 32 → before at past ≡ old.lines → channels_shown at past ≡ old.rows → IsUndone past at t token old
    → StanceStepRollsBack t token old kept outcome table new kept' → IsSound fresh past between (Rollback at t) outcome table made
rollback_reply fresh between past at t size found None old new kept kept' Alloc None made is told_it low small rows shown undone h = tt
rollback_reply fresh between past at t size found (Some token) old new kept kept' Alloc None made is told_it low small rows shown undone h = tt
rollback_reply {E} fresh between past at t size found None old new kept kept' NoSuch (Some table) made is told_it low small rows shown undone h =
    rollback_by false _ (is_right at t past) _ (table_shown at past) (table_undone at t past) table NoSuch (sym told_it.held ∙ ap is_some is) refl
    (unheld_reply E (is_right at t past) (table_shown at past) (table_undone at t past) table (same_tables table (table_shown at past) (h.1.lines ∙ sym rows) (h.1.channels ∙ sym shown)))
rollback_reply fresh between past at t size found (Some token) old new kept kept' Done (Some table) made is told_it low small rows shown undone h =
    let right : is_right at t past ≡ true = now_right old.counter size token.id (is_right at t past) h.0.0 (told_it.right token is) (told_it.older token is) low small in
    rollback_by true _ true _ (table_shown at past) (table_undone at t past) table Done (sym told_it.held ∙ ap is_some is) right (undone right new table h.0 h.1 h.3)
rollback_reply fresh between past at t size found (Some token) old new kept kept' (Refused ChangesOutOfOrder) (Some table) made is told_it low small rows shown undone h =
    rollback_by true _ false _ (table_shown at past) (table_undone at t past) table (Refused ChangesOutOfOrder) (sym told_it.held ∙ ap is_some is)
    (not_right old.counter size token.id (is_right at t past) h.0.0 (told_it.right token is) (told_it.older token is) low small)
    (same_tables table (table_shown at past) (h.2.lines ∙ ap (λ p. p.lines) h.0.1 ∙ sym rows) (h.2.channels ∙ ap (λ p. p.rows) h.0.1 ∙ sym shown))
rollback_reply fresh between past at t size found (Some token) old new kept kept' (Refused (RemoteSdp why)) (Some table) made is told_it low small rows shown undone h = absurd h.0
rollback_reply fresh between past at t size found (Some token) old new kept kept' (Refused (SdpRefused error)) (Some table) made is told_it low small rows shown undone h = absurd h.0
rollback_reply fresh between past at t size found (Some token) old new kept kept' (Refused (Dtls error)) (Some table) made is told_it low small rows shown undone h = absurd h.0
rollback_reply fresh between past at t size found (Some token) old new kept kept' (Refused (Sctp error)) (Some table) made is told_it low small rows shown undone h = absurd h.0
rollback_reply fresh between past at t size found (Some token) old new kept kept' (Refused (Net cause)) (Some table) made is told_it low small rows shown undone h = absurd h.0
rollback_reply fresh between past at t size found (Some token) old new kept kept' (Refused (MediaFailed cause)) (Some table) made is told_it low small rows shown undone h = absurd h.0
rollback_reply fresh between past at t size found (Some token) old new kept kept' (Refused BadChannel) (Some table) made is told_it low small rows shown undone h = absurd h.0
rollback_reply fresh between past at t size found (Some token) old new kept kept' (Refused PeerAlloc) (Some table) made is told_it low small rows shown undone h = absurd h.0
rollback_reply fresh between past at t size found (Some token) old new kept kept' (Refused Glare) (Some table) made is told_it low small rows shown undone h = absurd h.0
rollback_reply fresh between past at t size found token old new kept kept' outcome table made is told_it low small rows shown undone h = absurd h

-- ---- what the entry leaves

-- the channels of a side that tells no number
channels_go : {E : Type 0} → (past : List (Entry E)) (at : Side) (t : ℕ) (outcome : Outcome E) (table : Option Table) (made : List MadeSdp) (old new : PairStance) → numbers_in outcome ≡ []
    → AreNumbered [] (old.sides at).channels (new.sides at).channels → channel_rows_or true table (channels_shown at past) ≡ (new.sides at).rows → Tells past old
    → ChannelsTell (entry (Rollback at t) outcome table made ∷ past) at (new.sides at)
channels_go past at t outcome table made old new none numbered shown tells =
    channels_next past (Rollback at t) outcome table made (old.sides at) (new.sides at) (rw none numbered) shown (tells.sides at).channels

-- the call was not reached
untouched_tells : {E : Type 0} → (past : List (Entry E)) (at : Side) (t : ℕ) (outcome : Outcome E) (table : Option Table) (made : List MadeSdp) (old new : PairStance)
    → was_rolled_back outcome ≡ false → ((u : ℕ) → makes u outcome ≡ false) → numbers_in outcome ≡ [] → new.sides at ≡ old.sides at → new.sdps ≡ old.sdps → rows_or true table (before at past) ≡ (old.sides at).lines
    → channel_rows_or true table (channels_shown at past) ≡ (old.sides at).rows
    → Around (Rollback at t) made old new → Tells past old → Tells (entry (Rollback at t) outcome table made ∷ past) new
untouched_tells past at t outcome table made old new uncalled unmade none peer kept rows shown around tells =
    quiet_tells false past (Rollback at t) outcome table made old new kept (ap (λ p. p.lines) peer ∙ sym rows)
    (channels_go past at t outcome table made old new none (same_numbers (old.sides at).channels (new.sides at).channels (ap (λ p. p.channels) peer)) (shown ∙ ap (λ p. p.rows) (sym peer)) tells) (ap (λ p. p.counter) peer)
    refl refl (λ u. and_right (t == u) (was_rolled_back outcome) uncalled) unmade around tells

cancelled_by : (held held' : Channels) (token : PendingOffer) → held' ≡ all_cancelled (new_channels token.changes) held → AreNumbered [] held held'
cancelled_by held held' token is = rw is (all_cancelled_numbered (new_channels token.changes) held)

-- A step that rolls an offer back.
pub rollback_tells : {E : Type 0} → (past : List (Entry E)) (at : Side) (t : ℕ) (token : Option PendingOffer) (old new : PairStance) (outcome : Outcome E) (table : Option Table) (made : List MadeSdp)
    → held_token old.sdps at t ≡ token → StanceStepRollsBack t token (old.sides at) old.sdps outcome table (new.sides at) new.sdps
    → Around (Rollback at t) made old new → Tells past old → Tells (entry (Rollback at t) outcome table made ∷ past) new
rollback_tells past at t None old new Alloc None made is h around tells =
    untouched_tells past at t Alloc None made old new refl (λ u. refl) refl h.peer h.sdps_kept (sym (tells.sides at).rows) (sym (tells.sides at).channels.shown) around tells
rollback_tells past at t (Some token) old new Alloc None made is h around tells =
    untouched_tells past at t Alloc None made old new refl (λ u. refl) refl h.peer h.sdps_kept (sym (tells.sides at).rows) (sym (tells.sides at).channels.shown) around tells
rollback_tells past at t None old new NoSuch (Some table) made is h around tells =
    untouched_tells past at t NoSuch (Some table) made old new refl (λ u. refl) refl h.0.peer h.0.sdps_kept h.1.lines h.1.channels around tells
rollback_tells past at t (Some token) old new Done (Some table) made is h around tells =
    let found : (kept : Kept) × (slice_get old.sdps t ≡ Some kept) = text_found at (slice_get old.sdps t) token is in
    let small : old.size < 2 ^ 32 = omega (arith, around.size, around.small) in
    let older = ((tells.sides at).tokens t).older token is in
    let low = (tells.sides at).counts in
    rolled_tells past (entry (Rollback at t) Done (Some table) made) old new t found.0 token
    (record {
      rows = sym h.3.lines;
      channels = channels_go past at t Done (Some table) made old new refl (cancelled_by (old.sides at).channels (new.sides at).channels token (ap (λ p. p.channels) h.0.1)) h.3.channels tells;
      counter = ap (λ p. p.counter) h.0.1 ∙ raised-small (old.sides at).counter old.size low small;
      other = around.other;
      still = λ side. refl;
      grows = size_grows (Rollback at t) made old new around;
      made = around.made_is;
    })
    found.1 (ap (token_for at) (sym found.1) ∙ is) (h.0.0 ∙ raised-small token.id old.size (omega (arith, older, low)) small)
    (h.2 ∙ spent-is t old.sdps found.0 found.1) (λ u. and_true (t == u)) (λ u. refl) tells
rollback_tells past at t (Some token) old new (Refused ChangesOutOfOrder) (Some table) made is h around tells =
    let found : (kept : Kept) × (slice_get old.sdps t ≡ Some kept) = text_found at (slice_get old.sdps t) token is in
    spent_tells past (entry (Rollback at t) (Refused ChangesOutOfOrder) (Some table) made) old new t found.0
    (goes_on false past (Rollback at t) (Refused ChangesOutOfOrder) (Some table) made old new (sym h.2.lines)
    (channels_go past at t (Refused ChangesOutOfOrder) (Some table) made old new refl (same_numbers (old.sides at).channels (new.sides at).channels (ap (λ p. p.channels) h.0.1)) h.2.channels tells)
    (ap (λ p. p.counter) h.0.1) refl refl around)
    found.1 (h.1 ∙ spent-is t old.sdps found.0 found.1) (λ u. and_true (t == u)) (λ u. refl) tells
rollback_tells past at t (Some token) old new (Refused (RemoteSdp why)) (Some table) made is h around tells = absurd h.0
rollback_tells past at t (Some token) old new (Refused (SdpRefused error)) (Some table) made is h around tells = absurd h.0
rollback_tells past at t (Some token) old new (Refused (Dtls error)) (Some table) made is h around tells = absurd h.0
rollback_tells past at t (Some token) old new (Refused (Sctp error)) (Some table) made is h around tells = absurd h.0
rollback_tells past at t (Some token) old new (Refused (Net cause)) (Some table) made is h around tells = absurd h.0
rollback_tells past at t (Some token) old new (Refused (MediaFailed cause)) (Some table) made is h around tells = absurd h.0
rollback_tells past at t (Some token) old new (Refused BadChannel) (Some table) made is h around tells = absurd h.0
rollback_tells past at t (Some token) old new (Refused PeerAlloc) (Some table) made is h around tells = absurd h.0
rollback_tells past at t (Some token) old new (Refused Glare) (Some table) made is h around tells = absurd h.0
rollback_tells past at t token old new outcome table made is h around tells = absurd h
