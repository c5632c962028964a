-- What an acceptance makes ready, put together from its steps.
use Rattle.std.proofs.Common.{◌≡◌, ◌∙◌, ℕ, Bool, true, false, List, [], Option, Some, None, Ok, Err, refl, sym, ap, subst}
use Rattle.std.specs.declared.alloc.AllocError.{AllocError}
use Rattle.std.specs.Option.{option_or}
use Rattle.rtc_sdp_values.specs.Sdp.{creds_of, sdp_fingerprint}
use Rattle.rtc_sdp_values.specs.declared.ice_creds.IceCreds.{IceCreds}
use Rattle.rtc_sdp_values.specs.declared.sdp.Sdp.{Sdp}
use Rattle.rtc_parts.specs.declared.media_update.MediaUpdate.{MediaUpdate}
use Rattle.rtc_change.specs.declared.change.Change.{Change}
use Rattle.rtc_change.specs.Plans.{is_restart}
use Rattle.rtc_parts.specs.Draws.{Draws, Later}
use Rattle.rtc_parts.proofs.LaterLemmas.{later_none, later_twice, later_join}
use Rattle.rtc_sctp.specs.Calls.{are_whole}
use Rattle.rtc_sctp_values.specs.InitHalves.{InitHalves, after_half}
use Rattle.rtc_sctp_values.specs.SnapHalves.{KeptHalves, halves_or_none, halves_of, after_halves_of}
use Rattle.rtc_peer_core.specs.declared.peer.Peer.{Peer}
use Rattle.rtc_peer_core.specs.Acceptances.{followed_restart, answer_ids, updates_for, ids_after_updates, halves_for, ids_after_halves}
use Rattle.rtc_peer_core.specs.Calls.{control_for}
use Rattle.rtc_peer_core.specs.Creds.{new_creds, after_new_creds}
use Rattle.rtc_peer_core.specs.MadeSdp.{answer_sdp}
use Rattle.rtc_peer_core.specs.Meanings.{Meanings}
use Rattle.rtc_peer_core.specs.SdpHalves.{answer_init}
use Rattle.rtc_peer_core.specs.SdpMoves.{chunk_told}
use Rattle.rtc_peer_core.specs.Stance.{stance_of}
use Rattle.rtc_peer_core.specs.StoppedAcceptances.{StopsPreparing, BeforeSources, AmongDraws, AtUpdates}
use Rattle.rtc_peer_negotiation.specs.declared.growth.Growth.{Growth}
use Rattle.rtc_peer_negotiation.specs.Growths.{following_of, DrawsAlong, GrowsOffer}

-- what is made ready for an offer that is followed by a restart or by none, and of whose lines the media part is told this
abbrev pub offer_growth : {I D S M E X T W N : Type 0} → Meanings I D S M E X T W N → Peer I D S M N → Option (IceCreds × Bool) → List MediaUpdate
    → Option InitHalves → Sdp → Growth
offer_growth m p restart updates halves offer = record {
  answer = Some (answer_sdp (stance_of m p) restart updates
      (answer_init (m.association.started p.sctp.association) p.sctp.snap halves) offer);
  following = following_of restart offer (control_for p.dtls.active offer.ice_lite);
  starting = record { halves = halves; drops = false };
  fingerprint = option_or p.fingerprint (sdp_fingerprint offer);
}

-- it is no matter of the numbers that are left
same_growth : {I D S M E X T W N : Type 0} (m : Meanings I D S M E X T W N) (p : Peer I D S M N) (ids : N) (restart : Option (IceCreds × Bool))
    (updates : List MediaUpdate) (halves : Option InitHalves) (offer : Sdp)
    → offer_growth m (record p { ids = ids }) restart updates halves offer ≡ offer_growth m p restart updates halves offer
unfolding answer_sdp
same_growth m p ids restart updates halves offer = refl

pub offer_grown : {I D S M E X T W N : Type 0} (m : Meanings I D S M E X T W N) (p q : Peer I D S M N) (offer : Sdp) (restarts : Bool)
    (restart : Option (IceCreds × Bool)) (ids : N) (growth : Growth) (updates : List MediaUpdate) (halves : Option InitHalves) (media : M)
    → restarts ≡ is_restart (m.ice.settings p.ice).remote (creds_of offer) → restart ≡ new_creds m.ids p.ids restarts → ids ≡ after_new_creds m.ids p.ids restarts
    → growth ≡ offer_growth m q restart updates halves offer → q ≡ record p { ids = q.ids } → updates ≡ updates_for m p true [] offer ids
    → halves ≡ halves_for m p true true [] offer ids → q.ids ≡ ids_after_halves m p true true [] offer ids
    → m.media.prepared q.media updates (Ok tt) media → GrowsOffer m p offer (Ok growth) (record q { media = media })
offer_grown {I} {D} {S} {M} {E} {X} {T} {W} {N} m p q offer restarts restart ids growth updates halves media is restart_is ids_is growth_is others updates_are halves_are
    after prepared =
    let followed : restart ≡ followed_restart m p offer = restart_is ∙ ap (new_creds m.ids p.ids) is in
    let drawn : ids ≡ answer_ids m p offer = ids_is ∙ ap (after_new_creds m.ids p.ids) is in
    let same : q.media ≡ p.media = ap (λ (x : Peer I D S M N). x.media) others in
    let told : updates ≡ updates_for m p true [] offer (answer_ids m p offer) = updates_are ∙ ap (λ (n : N). updates_for m p true [] offer n) drawn in
    let joined : halves ≡ halves_for m p true true [] offer (answer_ids m p offer) =
    halves_are ∙ ap (λ (n : N). halves_for m p true true [] offer n) drawn in
    let last : q.ids ≡ ids_after_halves m p true true [] offer (answer_ids m p offer) =
    after ∙ ap (λ (n : N). ids_after_halves m p true true [] offer n) drawn in (
      growth_is
          ∙ ap (λ (x : Peer I D S M N). offer_growth m x restart updates halves offer) others
          ∙ same_growth m p q.ids restart updates halves offer
          ∙ ap (λ (r : Option (IceCreds × Bool)). offer_growth m p r updates halves offer) followed
          ∙ ap (λ (us : List MediaUpdate). offer_growth m p (followed_restart m p offer) us halves offer) told
          ∙ ap (λ (hs : Option InitHalves). offer_growth m p (followed_restart m p offer)
          (updates_for m p true [] offer (answer_ids m p offer)) hs offer) joined,
      subst (λ (us : List MediaUpdate). m.media.prepared p.media us (Ok tt) media) told
          (subst (λ (x : M). m.media.prepared x updates (Ok tt) media) same prepared),
      ap (λ (x : Peer I D S M N). record x { media = media }) (others ∙ ap (λ (n : N). record p { ids = n }) last),
    )

-- what was drawn before sources
pub drawn_creds_ids : {I D S M E X T W N : Type 0} (m : Meanings I D S M E X T W N) (p : Peer I D S M N) (offer : Sdp) (restarts : Bool) (ids : N)
    → restarts ≡ is_restart (m.ice.settings p.ice).remote (creds_of offer) → ids ≡ after_new_creds m.ids p.ids restarts → ids ≡ answer_ids m p offer
drawn_creds_ids m p offer restarts ids is ids_is = ids_is ∙ ap (after_new_creds m.ids p.ids) is

-- the half that is drawn behind sources
half_later : {N : Type 0} (draws : Draws N) (local : Option (List ℕ)) (ids : N) → Later draws ids (after_half draws local ids)
half_later draws None ids = later_twice draws ids
half_later draws (Some chunk) ids = later_none draws ids

halves_later : {N : Type 0} (draws : Draws N) (limit : ℕ) (kept : KeptHalves) (chunk : Option (List ℕ)) (ids : N)
    → Later draws ids (after_halves_of draws limit kept chunk ids)
halves_later draws limit kept None ids = later_none draws ids
halves_later draws limit kept (Some chunk) ids = half_later draws (halves_or_none limit kept.pending).local ids

-- the halves of a start are both there
pub joined_whole : {N : Type 0} (draws : Draws N) (limit : ℕ) (kept : KeptHalves) (chunk : Option (List ℕ)) (ids : N)
    → are_whole (halves_of draws limit kept chunk ids) ≡ true
joined_whole draws limit kept None ids = refl
joined_whole draws limit kept (Some chunk) ids = refl

module _ {I D S M E X T W N : Type 0} (m : Meanings I D S M E X T W N) where
  -- memory lacked as sources were drawn, or behind them
  pub along_sources : (p q : Peer I D S M N) (offer may : Bool) (changes : List Change) (sdp : Sdp) → Later m.ids p.ids q.ids
      → Later m.ids q.ids (ids_after_updates m p offer changes sdp p.ids) → q ≡ record p { ids = q.ids }
      → DrawsAlong m p offer may changes sdp q
  along_sources p q offer may changes sdp some most others = record {
    some = some;
    most = later_join m.ids q.ids (ids_after_updates m p offer changes sdp p.ids) (ids_after_halves m p offer may changes sdp p.ids) most
        (halves_later m.ids p.sctp.local_max p.sctp.snap (chunk_told m p may sdp) (ids_after_updates m p offer changes sdp p.ids));
    others = others;
  }

  -- the halves that were joined behind the sources, and the numbers that are left
  pub joined_are : (p q : Peer I D S M N) (offer may : Bool) (changes : List Change) (sdp : Sdp) (halves : Option InitHalves) → q ≡ record p { ids = q.ids }
      → q.ids ≡ ids_after_updates m p offer changes sdp p.ids
      → halves ≡ halves_of m.ids q.sctp.local_max q.sctp.snap (chunk_told m q may sdp) q.ids → halves ≡ halves_for m p offer may changes sdp p.ids
  joined_are p q offer may changes sdp halves others after is =
      is
      ∙ ap (λ (x : Peer I D S M N). halves_of m.ids x.sctp.local_max x.sctp.snap (chunk_told m x may sdp) q.ids) others
      ∙ ap (λ (n : N). halves_of m.ids p.sctp.local_max p.sctp.snap (chunk_told m p may sdp) n) after

  pub left_are : (p q r : Peer I D S M N) (may : Bool) (sdp : Sdp) → q ≡ record p { ids = q.ids }
      → r.ids ≡ after_halves_of m.ids q.sctp.local_max q.sctp.snap (chunk_told m q may sdp) q.ids
      → r.ids ≡ after_halves_of m.ids p.sctp.local_max p.sctp.snap (chunk_told m p may sdp) q.ids
  left_are p q r may sdp others is =
      is ∙ ap (λ (x : Peer I D S M N). after_halves_of m.ids x.sctp.local_max x.sctp.snap (chunk_told m x may sdp) q.ids) others

  pub all_left : (p q r : Peer I D S M N) (offer may : Bool) (changes : List Change) (sdp : Sdp) → q ≡ record p { ids = q.ids }
      → q.ids ≡ ids_after_updates m p offer changes sdp p.ids
      → r.ids ≡ after_halves_of m.ids q.sctp.local_max q.sctp.snap (chunk_told m q may sdp) q.ids
      → r.ids ≡ ids_after_halves m p offer may changes sdp p.ids
  all_left p q r offer may changes sdp others after is =
      left_are p q r may sdp others is ∙ ap (λ (n : N). after_halves_of m.ids p.sctp.local_max p.sctp.snap (chunk_told m p may sdp) n) after

  pub are_joined_whole : (q : Peer I D S M N) (may : Bool) (sdp : Sdp) (halves : Option InitHalves)
      → halves ≡ halves_of m.ids q.sctp.local_max q.sctp.snap (chunk_told m q may sdp) q.ids → are_whole halves ≡ true
  are_joined_whole q may sdp halves is = ap are_whole is ∙ joined_whole m.ids q.sctp.local_max q.sctp.snap (chunk_told m q may sdp) q.ids

  -- all was drawn
  pub along_all : (p q r : Peer I D S M N) (offer may : Bool) (changes : List Change) (sdp : Sdp) → q ≡ record p { ids = q.ids }
      → q.ids ≡ ids_after_updates m p offer changes sdp p.ids → Later m.ids p.ids q.ids → r ≡ record q { ids = r.ids }
      → r.ids ≡ after_halves_of m.ids p.sctp.local_max p.sctp.snap (chunk_told m p may sdp) q.ids → DrawsAlong m p offer may changes sdp r
  along_all p q r offer may changes sdp others after some rest last =
      let whole : r.ids ≡ ids_after_halves m p offer may changes sdp p.ids =
      last ∙ ap (λ (n : N). after_halves_of m.ids p.sctp.local_max p.sctp.snap (chunk_told m p may sdp) n) after in
      record {
        some = later_join m.ids p.ids q.ids r.ids some
            (subst (λ (n : N). Later m.ids q.ids n) (sym last)
            (halves_later m.ids p.sctp.local_max p.sctp.snap (chunk_told m p may sdp) q.ids));
        most = subst (λ (n : N). Later m.ids r.ids n) whole (later_none m.ids r.ids);
        others = rest ∙ ap (λ (x : Peer I D S M N). record x { ids = r.ids }) others;
      }

  -- memory lacked behind the sources, as the halves were joined
  pub along_stopped : (p q r : Peer I D S M N) (offer may : Bool) (changes : List Change) (sdp : Sdp) → q ≡ record p { ids = q.ids }
      → q.ids ≡ ids_after_updates m p offer changes sdp p.ids → Later m.ids p.ids q.ids → r ≡ record q { ids = r.ids } → r.ids ≡ q.ids
      → DrawsAlong m p offer may changes sdp r
  along_stopped p q r offer may changes sdp others after some rest same =
      along_sources p r offer may changes sdp (subst (λ (n : N). Later m.ids p.ids n) (sym same) some)
      (subst (λ (n : N). Later m.ids r.ids n) (same ∙ after) (later_none m.ids r.ids))
      (rest ∙ ap (λ (x : Peer I D S M N). record x { ids = r.ids }) others)

  -- memory lacked before sources were drawn
  pub stops_before_sources : (p : Peer I D S M N) (offer may : Bool) (changes : List Change) (sdp : Sdp) (drawn ids : N) → ids ≡ drawn
      → StopsPreparing m p offer may changes sdp drawn (record p { ids = ids })
  stops_before_sources p offer may changes sdp drawn ids is = BeforeSources (ap (λ (n : N). record p { ids = n }) is)

  -- it lacked among the draws, or once all were drawn
  pub stops_among_draws : (p q : Peer I D S M N) (offer may : Bool) (changes : List Change) (sdp : Sdp) (drawn ids : N) → ids ≡ drawn
      → DrawsAlong m (record p { ids = ids }) offer may changes sdp q → StopsPreparing m p offer may changes sdp drawn q
  stops_among_draws p q offer may changes sdp drawn ids is along =
      AmongDraws (subst (λ (n : N). Later m.ids n q.ids) is along.some)
      (subst (λ (n : N). Later m.ids q.ids (ids_after_halves m p offer may changes sdp n)) is along.most) along.others

  -- it lacked as the media part prepared its updates
  pub stops_at_updates : (p q : Peer I D S M N) (offer may : Bool) (changes : List Change) (sdp : Sdp) (drawn ids : N) (updates : List MediaUpdate)
      (error : AllocError) (media : M) → ids ≡ drawn → q ≡ record p { ids = q.ids } → updates ≡ updates_for m p offer changes sdp ids
      → q.ids ≡ ids_after_halves m p offer may changes sdp ids → m.media.prepared q.media updates (Err error) media
      → StopsPreparing m p offer may changes sdp drawn (record q { media = media })
  stops_at_updates p q offer may changes sdp drawn ids updates error media is others updates_are after lacks =
      let same : q.media ≡ p.media = ap (λ (x : Peer I D S M N). x.media) others in
      let last : q.ids ≡ ids_after_halves m p offer may changes sdp drawn = after ∙ ap (λ (n : N). ids_after_halves m p offer may changes sdp n) is in
      AtUpdates error
      (subst (λ (us : List MediaUpdate). m.media.prepared p.media us (Err error) media) (updates_are ∙ ap (λ (n : N). updates_for m p offer changes sdp n) is)
      (subst (λ (x : M). m.media.prepared x updates (Err error) media) same lacks))
      (ap (λ (x : Peer I D S M N). record x { media = media }) (others ∙ ap (λ (n : N). record p { ids = n }) last))
