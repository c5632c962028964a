-- What holds of every media part.
use Rattle.std.specs.Prelude.{ℕ, ◌≡◌, ◌≢◌, ◌+◌, ◌<◌, ◌≤◌, ◌⊎◌, Bool, true, false, List, Option, Some, None, Ok, Err}
use Rattle.rtc_io.specs.Faults.{Rose}
use Rattle.rtc_sdp_values.specs.declared.ssrc.Ssrc.{Ssrc}
use Rattle.rtc_parts.specs.declared.srtp_profile.SrtpProfile.{SrtpProfile}
use Rattle.rtc_parts.specs.declared.media_error.MediaError.{MediaError}
use Rattle.rtc_parts.specs.declared.media_error.MediaError.TheVariants.{Alloc}
use Rattle.rtc_parts.specs.declared.media_update.MediaUpdate.{MediaUpdate}
use Rattle.rtc_parts.specs.MediaMeaning.{MediaMeaning, held_media}
use Rattle.rtc_parts.specs.MediaUpdates.{line_after, removed_by}
use Rattle.rtc_parts.specs.MediaActs.{MediaAct, MediaActed, KeepsLines, changes_pending}

-- the lines and the SSRCs in use are the same
pub record SameLines {M E X T W : Type 0} (m : MediaMeaning M E X T W) (p q : M) : Type 0 where
  pub lines : (mid : List ℕ) → m.line q mid ≡ m.line p mid
  pub used : (ssrc : Ssrc) → m.used q ssrc ≡ m.used p ssrc

-- the lines are the same; the SSRC of a stream and of its retransmissions is in use, and no other is newly so
pub record UsesStream {M E X T W : Type 0} (m : MediaMeaning M E X T W) (p : M) (ssrc : Ssrc) (rtx : Option Ssrc) (q : M) : Type 0 where
  pub lines : (mid : List ℕ) → m.line q mid ≡ m.line p mid
  pub own : m.used q ssrc ≡ true
  pub retransmissions : (other : Ssrc) → rtx ≡ Some other → m.used q other ≡ true
  pub others : (other : Ssrc) → m.used q other ≡ true → (m.used p other ≡ true) ⊎ ((other ≡ ssrc) ⊎ (rtx ≡ Some other))

pub record MediaLaws {M E X T W : Type 0} (m : MediaMeaning M E X T W) : Type 0 where
  -- a fresh part has no line
  pub fresh_line : (p : M) (mid : List ℕ) → m.fresh p → m.line p mid ≡ None
  -- preparing changes neither a line nor which SSRCs are in use, and a commit applies what was prepared last
  pub prepare_same : (p q : M) (updates : List MediaUpdate) (r : _) → m.prepared p updates r q → SameLines m p q
  pub prepare_pending : (p q : M) (updates : List MediaUpdate) → m.prepared p updates (Ok tt) q → m.pending q ≡ updates
  pub commit_lines : (p q : M) (mid : List ℕ) → m.committed p q → m.line q mid ≡ line_after (m.pending p) mid (m.line p mid)
  pub commit_streams : (p q : M) (mid : List ℕ) → m.committed p q → removed_by (m.pending p) mid ≡ true → m.has_streams q mid ≡ false
  pub pending_stays : (p q : M) (act : MediaAct) (h : MediaActed m p act q) → changes_pending m p q act h ≡ false
      → m.pending q ≡ m.pending p
  -- a line that is removed is gone with its streams, and the others are unchanged
  pub removed_line : (p q : M) (mid : List ℕ) → m.line_removed p mid q → m.line q mid ≡ None
  pub removed_streams : (p q : M) (mid : List ℕ) → m.line_removed p mid q → m.has_streams q mid ≡ false
  pub removed_others : (p q : M) (mid other : List ℕ) → other ≢ mid → m.line_removed p mid q → m.line q other ≡ m.line p other
  -- a line changes by nothing else
  pub lines_stay : (p q : M) (mid : List ℕ) → KeepsLines m p q → m.line q mid ≡ m.line p mid
  -- whatever is written through a reference, the lines are unchanged; an SSRC is newly in use only by a stream that is made
  pub writer_same : (p q : M) (mid : List ℕ) (lent left : W) → m.writer_lent p mid lent left q → SameLines m p q
  pub rx_same : (p q : M) (ssrc : Ssrc) (lent left : X) → m.rx_lent p ssrc lent left q → SameLines m p q
  pub tx_same : (p q : M) (ssrc : Ssrc) (lent left : T) → m.tx_lent p ssrc lent left q → SameLines m p q
  pub rx_named_same : (p q : M) (mid : List ℕ) (rid : Option (List ℕ)) (lent left : X) → m.rx_named_lent p mid rid lent left q
      → SameLines m p q
  pub tx_named_same : (p q : M) (mid : List ℕ) (rid : Option (List ℕ)) (lent left : T) → m.tx_named_lent p mid rid lent left q
      → SameLines m p q
  pub rx_uses : (p q : M) (ssrc : Ssrc) (rtx : Option Ssrc) (mid : List ℕ) (rid : Option (List ℕ)) (lent left : X)
      → m.rx_expected p ssrc rtx mid rid lent left q → UsesStream m p ssrc rtx q
  pub tx_uses : (p q : M) (ssrc : Ssrc) (rtx : Option Ssrc) (mid : List ℕ) (rid : Option (List ℕ)) (lent left : T)
      → m.tx_declared p ssrc rtx mid rid lent left q → UsesStream m p ssrc rtx q
  pub reset_uses : (p q : M) (mid : List ℕ) (rid : Option (List ℕ)) (ssrc : Ssrc) (rtx : Option Ssrc) (lent left : T)
      → m.resets_tx p mid rid ssrc rtx ≡ true → m.tx_reset p mid rid ssrc rtx lent left q → UsesStream m p ssrc rtx q
  -- a line has streams exactly if one of a layer of it is found
  pub rx_of_line : (p : M) (mid : List ℕ) (rid : Option (List ℕ)) → m.has_rx_named p mid rid ≡ true → m.has_streams p mid ≡ true
  pub tx_of_line : (p : M) (mid : List ℕ) (rid : Option (List ℕ)) → m.has_tx_named p mid rid ≡ true → m.has_streams p mid ≡ true
  pub streams_found : (p : M) (mid : List ℕ) → m.has_streams p mid ≡ true
      → (rid : Option (List ℕ)) × ((m.has_rx_named p mid rid ≡ true) ⊎ (m.has_tx_named p mid rid ≡ true))
  -- if a stream is found by an SSRC, one is found by some line and layer; what is made is found by its SSRC and by its own
  pub rx_named : (p : M) (ssrc : Ssrc) → m.has_rx p ssrc ≡ true
      → (mid : List ℕ) × ((rid : Option (List ℕ)) × (m.has_rx_named p mid rid ≡ true))
  pub tx_named : (p : M) (ssrc : Ssrc) → m.has_tx p ssrc ≡ true
      → (mid : List ℕ) × ((rid : Option (List ℕ)) × (m.has_tx_named p mid rid ≡ true))
  pub rx_made : (p q : M) (ssrc : Ssrc) (rtx : Option Ssrc) (mid : List ℕ) (rid : Option (List ℕ)) (lent left : X)
      → m.rx_expected p ssrc rtx mid rid lent left q → (m.has_rx q ssrc ≡ true) × (m.has_rx_named q mid rid ≡ true)
  pub tx_made : (p q : M) (ssrc : Ssrc) (rtx : Option Ssrc) (mid : List ℕ) (rid : Option (List ℕ)) (lent left : T)
      → m.tx_declared p ssrc rtx mid rid lent left q → (m.has_tx q ssrc ≡ true) × (m.has_tx_named q mid rid ≡ true)
  -- a stream that is dropped is gone, and the call returns whether it was there
  pub rx_removal : (p q : M) (ssrc : Ssrc) (b : Bool) → m.rx_removed p ssrc b q → (b ≡ m.has_rx p ssrc) × (m.has_rx q ssrc ≡ false)
  pub tx_removal : (p q : M) (ssrc : Ssrc) (b : Bool) → m.tx_removed p ssrc b q → (b ≡ m.has_tx p ssrc) × (m.has_tx q ssrc ≡ false)
  -- the count of faults never falls, and an error other than running out of memory is returned only if it rose
  pub faults_rise : (p q : M) (act : MediaAct) → MediaActed m p act q → m.faults p ≤ m.faults q
  pub time_fault : (p q : M) (now : ℕ) (e : MediaError) → e ≢ Alloc → m.timed p now (Err e) q → Rose (m.faults p) (m.faults q)
  pub event_fault : (p q : M) (now : ℕ) (e : MediaError) → e ≢ Alloc → m.told_fallible p now (Err e) q → Rose (m.faults p) (m.faults q)
  -- a poll that gives nothing changes nothing, and the polls all give nothing exactly if nothing is held
  pub event_none : (p q : M) → m.told p None q → q ≡ p
  pub fallible_none : (p q : M) (now : ℕ) → m.told_fallible p now (Ok None) q → q ≡ p
  pub datagram_none : (p q : M) (now : ℕ) → m.gave p now None q → q ≡ p
  pub quiet_event : (p q : M) (r : Option E) → m.held_events p ≡ 0 → m.told p r q → r ≡ None
  pub quiet_fallible : (p q : M) (now : ℕ) (r : _) → m.held_events p ≡ 0 → m.told_fallible p now r q → (r ≡ Ok None) ⊎ (r ≡ Err Alloc)
  pub quiet_datagram : (p q : M) (now : ℕ) (r : _) → m.held_datagrams p ≡ 0 → m.gave p now r q → r ≡ None
  pub silent_events : (p q o : M) (now : ℕ) → m.told p None q → m.told_fallible p now (Ok None) o → m.held_events p ≡ 0
  pub silent_datagrams : (p q : M) (now : ℕ) → m.gave p now None q → m.held_datagrams p ≡ 0
  -- if no event is held, a poll for an event may return none and leave the part as it was
  pub quiet_told : (p : M) → m.held_events p ≡ 0 → m.told p None p
  -- if no event is held, a poll for an event whose making may fail may do the same
  pub quiet_told_fallible : (p : M) (now : ℕ) → m.held_events p ≡ 0 → m.told_fallible p now (Ok None) p
  -- if no datagram is held, a poll for a datagram may return none and leave the part as it was
  pub quiet_gave : (p : M) (now : ℕ) → m.held_datagrams p ≡ 0 → m.gave p now None p
  -- each poll that gives something lowers what is held, and none raises it
  pub event_falls : (p q : M) (e : E) → m.told p (Some e) q → held_media m q < held_media m p
  pub fallible_falls : (p q : M) (now : ℕ) (e : E) → m.told_fallible p now (Ok (Some e)) q → held_media m q < held_media m p
  pub fault_falls : (p q : M) (now : ℕ) (e : MediaError) → e ≢ Alloc → m.told_fallible p now (Err e) q → held_media m q < held_media m p
  pub lack_falls : (p q : M) (now : ℕ) → m.told_fallible p now (Err Alloc) q → held_media m q ≤ held_media m p
  pub datagram_falls : (p q : M) (now : ℕ) (datagram : List ℕ) → m.gave p now (Some datagram) q → held_media m q < held_media m p
  -- clearing the feedback never raises what is held; if no event is held it leaves the part quiet, and a quiet part unchanged
  pub clear_held : (p q : M) → m.cleared p q → held_media m q ≤ held_media m p
  pub clear_quiets : (p q : M) → m.held_events p ≡ 0 → m.cleared p q → held_media m q ≡ 0
  pub clear_quiet : (p q : M) → held_media m p ≡ 0 → m.cleared p q → q ≡ p
  pub clear_wake : (p q : M) → m.cleared p q → m.wake q ≡ m.wake p
  pub app_wake : (p q : M) (sender media : Ssrc) (payload : List ℕ) (r : _) → m.app_fed p sender media payload r q → m.wake q ≡ m.wake p
  -- if nothing is held, clearing the feedback may leave the part as it was
  pub quiet_cleared : (p : M) → held_media m p ≡ 0 → m.cleared p p
  -- how much closing and keying add to what is held, at most
  pub shut_held : (p q : M) (r : _) → m.rtp_shut p r q → held_media m q ≤ held_media m p + 32
  pub key_held : (p q : M) (key : List ℕ) (profile : SrtpProfile) (active : Bool) (r : _) → m.keyed p key profile active r q
      → held_media m q ≤ held_media m p + 32
