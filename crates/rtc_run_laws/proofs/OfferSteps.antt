-- A step that hands over an offer is sound.
use Rattle.rtc_parts.specs.declared.dtls_error.DtlsError.TheVariants.{Fault, WouldBlock, Alloc as DtlsAlloc}
use Rattle.rtc_change.specs.Held.{Held}
use Rattle.rtc_sdp_values.specs.declared.sdp_error.SdpError.TheVariants.{Parse}
use Rattle.rtc_channels.specs.declared.channel_row.ChannelRow.{ChannelRow}
use Rattle.rtc_peer_core.specs.Glare.{meets_glare}
use Rattle.rtc_peer_core.specs.Stance.{held_by}
use Rattle.rtc_run_history.specs.Signalled.{Signalled, NotMade, Unreadable, Readable, foreign}
use Rattle.rtc_run_history.specs.Views.{Stances, view_in}
use Rattle.std.proofs.Common.{◌≡◌, ℕ, List, length, Bool, true, false, Option, Some, None, refl, sym, ◌∙◌, ap}
use Rattle.rtc_sdp_values.specs.declared.line_row.LineRow.{LineRow}
use Rattle.rtc_peer_core.specs.Stance.{Stance}
use Rattle.rtc_peer_core.specs.declared.rtc_error.RtcError.{RtcError}
use Rattle.rtc_peer_core.specs.declared.rtc_error.RtcError.TheVariants.{Net, Media as MediaFailed}
use Rattle.rtc_peer_core.specs.declared.rtc_error.RtcError.TheVariants.{RemoteSdp, Sdp as SdpRefused, ChangesOutOfOrder, BadChannel, Alloc as PeerAlloc, Dtls, Sctp, Glare}
use Rattle.rtc_run_history.specs.declared.side.Side.{Side}
use Rattle.rtc_run_history.specs.declared.step.Step.TheVariants.{AcceptOffer, ForeignOffer}
use Rattle.rtc_run_history.specs.declared.outcome.Outcome.{Outcome}
use Rattle.rtc_run_history.specs.declared.outcome.Outcome.TheVariants.{Negotiated, Answered, Finished, Done, Wrote, Polled, Refused, NoSuch, Alloc}
use Rattle.rtc_run_history.specs.declared.table.Table.{Table}
use Rattle.rtc_run_history.specs.Past.{Entry, MadeSdp, channels_shown, sdps, remote_sdp}
use Rattle.rtc_run_history.specs.Sound.{RepliesToOffer, IsSound, is_glare_at}
use Rattle.rtc_run_history.specs.declared.kept.Kept.{Kept}
use Rattle.rtc_run_laws.proofs.StanceSteps.{StanceShows, StanceStepAcceptsOffer}

-- the same of equal SDPs, views and counts
offer_by : {E : Type 0} → (glare glare' : Bool) (sdp : Signalled) (view view' : Held) (next next' : ℕ) (outcome : Outcome E) (after : List LineRow) → glare' ≡ glare → view' ≡ view → next' ≡ next
    → RepliesToOffer glare sdp view next outcome after → RepliesToOffer glare' sdp view' next' outcome after
offer_by glare glare' sdp view view' next next' outcome after same_glare same_view same_next takes = rw (same_glare, same_view, same_next) takes

-- what could not be handed over, or read, was not judged
unsaid_offer : (E : Type 0) (glare : Bool) (view : Held) (next : ℕ) (after : List LineRow) → after ≡ view.lines → RepliesToOffer {E = E} glare NotMade view next NoSuch after
unsaid_offer E true view next after e = e
unsaid_offer E false view next after e = e

unread_offer : (E : Type 0) (glare : Bool) (line : ℕ) (error : RtcError) (view : Held) (next : ℕ) (after : List LineRow) → error ≡ SdpRefused (Parse line) → after ≡ view.lines
    → RepliesToOffer {E = E} glare (Unreadable line) view next (Refused error) after
unread_offer E true line error view next after is e = (is, e)
unread_offer E false line error view next after is e = (is, e)

-- the channels that are shown are those of the past
pub shown_by : (shown : List ChannelRow) (old new : Stance) (table : Table) → shown ≡ old.rows → new.rows ≡ old.rows → StanceShows table new → table.channels ≡ shown
shown_by shown old new table before_it same shows = shows.channels ∙ same ∙ sym before_it

-- what is known of the side that is handed an offer
pub record MayTake (glare : Bool) (view : Held) (next : ℕ) (shown : List ChannelRow) (old : Stance) (kept : List Kept) : Type 0 where
  pub glare_is : glare ≡ meets_glare old.polite old.outstanding
  pub view_is : view ≡ held_by old
  pub shown_is : shown ≡ old.rows
  pub next_is : next ≡ length kept

-- the reply to an offer, and the table that is shown
abbrev pub OfferReplied : {E : Type 0} → Bool → Signalled → Held → ℕ → List ChannelRow → Outcome E → Option Table → Type 0
OfferReplied glare sdp view next shown outcome None = outcome ≡ Alloc
OfferReplied glare sdp view next shown outcome (Some table) = RepliesToOffer glare sdp view next outcome table.lines × (table.channels ≡ shown)

-- the reply to an offer that is delivered
offer_reply : {E : Type 0} → (at : Side) (glare : Bool) (view : Held) (next : ℕ) (shown : List ChannelRow) (offer : Signalled) (old new : Stance) (kept kept' : List Kept) (outcome : Outcome E) (table : Option Table)
    → MayTake glare view next shown old kept → StanceStepAcceptsOffer at offer old kept outcome table new kept' → OfferReplied glare offer view next shown outcome table
offer_reply at glare view next shown NotMade old new kept kept' Alloc None may h = refl
offer_reply at glare view next shown (Unreadable line) old new kept kept' Alloc None may h = refl
offer_reply at glare view next shown (Readable sdp) old new kept kept' Alloc None may h = refl
offer_reply {E} at glare view next shown NotMade old new kept kept' NoSuch (Some table) may h =
    (unsaid_offer E glare view next table.lines (h.1.lines ∙ sym (ap (λ v. v.lines) may.view_is)), shown_by shown old old table may.shown_is refl h.1)
offer_reply {E} at glare view next shown (Unreadable line) old new kept kept' (Refused error) (Some table) may h =
    (unread_offer E glare line error view next table.lines h.0 (h.2.lines ∙ sym (ap (λ v. v.lines) may.view_is)), shown_by shown old old table may.shown_is refl h.2)
offer_reply at glare view next shown (Readable sdp) old new kept kept' (Answered n) (Some table) may h = (
  offer_by false glare (Readable sdp) (held_by old) view (length kept) next (Answered n) table.lines (may.glare_is ∙ h.1.no_glare) may.view_is may.next_is
      (h.1.passes, h.4.lines ∙ ap (λ p. p.lines) h.1.rest, h.3),
  shown_by shown old new table may.shown_is (ap (λ p. p.rows) h.1.rest) h.4,
)
offer_reply at glare view next shown (Readable sdp) old new kept kept' (Refused (RemoteSdp why)) (Some table) may h = (
  offer_by false glare (Readable sdp) (held_by old) view (length kept) next (Refused (RemoteSdp why)) table.lines (may.glare_is ∙ h.0.0) may.view_is may.next_is
      (h.0.1.0, h.2.lines ∙ ap (λ p. p.lines) h.0.1.1),
  shown_by shown old new table may.shown_is (ap (λ p. p.rows) h.0.1.1) h.2,
)
offer_reply at glare view next shown (Readable sdp) old new kept kept' (Refused (SdpRefused error)) (Some table) may h = (
  offer_by false glare (Readable sdp) (held_by old) view (length kept) next (Refused (SdpRefused error)) table.lines (may.glare_is ∙ h.0.0) may.view_is may.next_is
      (h.0.1.0, h.2.lines ∙ ap (λ p. p.lines) h.0.1.1),
  shown_by shown old new table may.shown_is (ap (λ p. p.rows) h.0.1.1) h.2,
)
offer_reply at glare view next shown (Readable sdp) old new kept kept' (Refused (Dtls Fault)) (Some table) may h = (
  offer_by false glare (Readable sdp) (held_by old) view (length kept) next (Refused (Dtls Fault)) table.lines (may.glare_is ∙ h.0.1.no_glare) may.view_is may.next_is
      (h.0.0, h.2.lines ∙ ap (λ p. p.lines) h.0.1.breaks.rest),
  shown_by shown old new table may.shown_is (ap (λ p. p.rows) h.0.1.breaks.rest) h.2,
)
offer_reply at glare view next shown (Readable sdp) old new kept kept' (Refused (Dtls WouldBlock)) (Some table) may h = absurd h.0
offer_reply at glare view next shown (Readable sdp) old new kept kept' (Refused (Dtls DtlsAlloc)) (Some table) may h = absurd h.0
offer_reply at glare view next shown (Readable sdp) old new kept kept' (Refused (Sctp error)) (Some table) may h = (
  offer_by false glare (Readable sdp) (held_by old) view (length kept) next (Refused (Sctp error)) table.lines (may.glare_is ∙ h.0.2.no_glare) may.view_is may.next_is
      (h.0.0, h.0.1, h.2.lines ∙ ap (λ p. p.lines) h.0.2.breaks.rest),
  shown_by shown old new table may.shown_is (ap (λ p. p.rows) h.0.2.breaks.rest) h.2,
)
offer_reply at glare view next shown (Readable sdp) old new kept kept' (Refused PeerAlloc) (Some table) may h = (
  offer_by false glare (Readable sdp) (held_by old) view (length kept) next (Refused PeerAlloc) table.lines (may.glare_is ∙ h.0.no_glare) may.view_is may.next_is
      (h.2.lines ∙ ap (λ p. p.lines) h.0.breaks.rest),
  shown_by shown old new table may.shown_is (ap (λ p. p.rows) h.0.breaks.rest) h.2,
)
offer_reply at glare view next shown (Readable sdp) old new kept kept' (Refused ChangesOutOfOrder) (Some table) may h = absurd h.0
offer_reply at glare view next shown (Readable sdp) old new kept kept' (Refused (Net cause)) (Some table) may h = absurd h.0
offer_reply at glare view next shown (Readable sdp) old new kept kept' (Refused (MediaFailed cause)) (Some table) may h = absurd h.0
offer_reply at glare view next shown (Readable sdp) old new kept kept' (Refused BadChannel) (Some table) may h = absurd h.0
offer_reply at glare view next shown (Readable sdp) old new kept kept' (Refused Glare) (Some table) may h = (
  offer_by true glare (Readable sdp) (held_by old) view (length kept) next (Refused Glare) table.lines (may.glare_is ∙ h.0.0) may.view_is may.next_is
      (h.2.lines ∙ ap (λ p. p.lines) h.0.1),
  shown_by shown old new table may.shown_is (ap (λ p. p.rows) h.0.1) h.2,
)
offer_reply at glare view next shown offer old new kept kept' outcome table may h = absurd h

-- such a reply is sound
offer_is_sound : {E : Type 0} → (fresh between : Stances) (past : List (Entry E)) (at : Side) (k : ℕ) (outcome : Outcome E) (table : Option Table) (made : List MadeSdp)
    → OfferReplied (is_glare_at fresh at past) (remote_sdp true at k past) (view_in fresh at past (held_by (between at))) (length (sdps past)) (channels_shown at past) outcome table
    → IsSound fresh past between (AcceptOffer at k) outcome table made
offer_is_sound fresh between past at k outcome None made h = rw h tt
offer_is_sound fresh between past at k (Negotiated answers what) (Some table) made h = h
offer_is_sound fresh between past at k (Answered n) (Some table) made h = h
offer_is_sound fresh between past at k Finished (Some table) made h = h
offer_is_sound fresh between past at k Done (Some table) made h = h
offer_is_sound fresh between past at k (Wrote taken) (Some table) made h = h
offer_is_sound fresh between past at k (Polled outputs end) (Some table) made h = h
offer_is_sound fresh between past at k (Refused error) (Some table) made h = h
offer_is_sound fresh between past at k NoSuch (Some table) made h = h
offer_is_sound fresh between past at k Alloc (Some table) made h = h

foreign_is_sound : {E : Type 0} → (fresh between : Stances) (past : List (Entry E)) (at : Side) (text : List ℕ) (outcome : Outcome E) (table : Option Table) (made : List MadeSdp)
    → OfferReplied (is_glare_at fresh at past) (foreign text) (view_in fresh at past (held_by (between at))) (length (sdps past)) (channels_shown at past) outcome table
    → IsSound fresh past between (ForeignOffer at text) outcome table made
foreign_is_sound fresh between past at text outcome None made h = rw h tt
foreign_is_sound fresh between past at text (Negotiated answers what) (Some table) made h = h
foreign_is_sound fresh between past at text (Answered n) (Some table) made h = h
foreign_is_sound fresh between past at text Finished (Some table) made h = h
foreign_is_sound fresh between past at text Done (Some table) made h = h
foreign_is_sound fresh between past at text (Wrote taken) (Some table) made h = h
foreign_is_sound fresh between past at text (Polled outputs end) (Some table) made h = h
foreign_is_sound fresh between past at text (Refused error) (Some table) made h = h
foreign_is_sound fresh between past at text NoSuch (Some table) made h = h
foreign_is_sound fresh between past at text Alloc (Some table) made h = h

pub offer_sound : {E : Type 0} → (fresh between : Stances) (past : List (Entry E)) (at : Side) (k : ℕ) (offer : Signalled) (old new : Stance) (kept kept' : List Kept) (outcome : Outcome E) (table : Option Table) (made : List MadeSdp)
    → remote_sdp true at k past ≡ offer → MayTake (is_glare_at fresh at past) (view_in fresh at past (held_by (between at))) (length (sdps past)) (channels_shown at past) old kept
    → StanceStepAcceptsOffer at offer old kept outcome table new kept' → IsSound fresh past between (AcceptOffer at k) outcome table made
offer_sound fresh between past at k offer old new kept kept' outcome table made said may h =
    offer_is_sound fresh between past at k outcome table made (rw said (offer_reply at _ _ _ _ offer old new kept kept' outcome table may h))

pub foreign_offer_sound : {E : Type 0} → (fresh between : Stances) (past : List (Entry E)) (at : Side) (text : List ℕ) (old new : Stance) (kept kept' : List Kept) (outcome : Outcome E) (table : Option Table) (made : List MadeSdp)
    → MayTake (is_glare_at fresh at past) (view_in fresh at past (held_by (between at))) (length (sdps past)) (channels_shown at past) old kept
    → StanceStepAcceptsOffer at (foreign text) old kept outcome table new kept' → IsSound fresh past between (ForeignOffer at text) outcome table made
foreign_offer_sound fresh between past at text old new kept kept' outcome table made may h =
    foreign_is_sound fresh between past at text outcome table made (offer_reply at _ _ _ _ (foreign text) old new kept kept' outcome table may h)
