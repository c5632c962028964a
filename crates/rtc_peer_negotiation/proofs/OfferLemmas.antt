-- The offer that a peer makes, put together from the steps of the call.
use Rattle.std.proofs.Common.{◌≡◌, ◌∙◌, ℕ, Bool, true, false, List, Option, Some, None, Result, sym, ap, subst}
use Rattle.std.specs.Result.{IfOk}
use Rattle.std.specs.declared.alloc.AllocError.{AllocError}
use Rattle.rtc_sdp_values.specs.declared.sdp.Sdp.{Sdp}
use Rattle.rtc_peer_core.specs.declared.sdp_head.SdpHead.{SdpHead}
use Rattle.rtc_peer_core.specs.declared.told_row.ToldRow.{ToldRow}
use Rattle.rtc_peer_core.specs.MadeSdp.{sdp_of_rows, offer_head, offered_told, offer_sdp}
use Rattle.std.specs.Prelude.{◌&&◌, not, is_some}
use Rattle.rtc_parts.specs.Draws.{Later}
use Rattle.rtc_parts.proofs.LaterLemmas.{later_none, later_twice}
use Rattle.rtc_sctp_values.specs.InitHalves.{after_half}
use Rattle.rtc_peer_core.specs.declared.peer.Peer.{Peer}
use Rattle.rtc_peer_core.specs.Calls.{LacksOffer, halves_pending, ids_after_told}
use Rattle.rtc_peer_core.specs.Meanings.{Meanings}
use Rattle.rtc_peer_core.specs.Stance.{Stance}

-- a description with the head of an offer and the rows that it tells is the offer
pub offer_made : (s : Stance) (init : Option (List ℕ)) (result : Result Sdp AllocError) (head : SdpHead) (told : List ToldRow)
    → IfOk result (λ sdp. sdp ≡ sdp_of_rows head told) → head ≡ offer_head s init → told ≡ offered_told s
    → IfOk result (λ sdp. sdp ≡ offer_sdp s init)
unfolding offer_sdp
offer_made s init result head told made head_is told_is =
    subst (λ (rows : List ToldRow). IfOk result (λ sdp. sdp ≡ sdp_of_rows (offer_head s init) rows)) told_is
    (subst (λ (first : SdpHead). IfOk result (λ sdp. sdp ≡ sdp_of_rows first told)) head_is made)

module _ {I D S M E X T W N : Type 0} (m : Meanings I D S M E X T W N) where
  -- memory lacked as an offer was made, with the half that it draws
  lacks_by : (local : Option (List ℕ)) (p q : Peer I D S M N) → q ≡ record p { ids = after_half m.ids local p.ids }
      → LacksOffer m (not (is_some local)) p q
  lacks_by None p q is =
      let drawn : q.ids ≡ after_half m.ids None p.ids = ap (λ (x : Peer I D S M N). x.ids) is in (
        subst (λ (n : N). Later m.ids p.ids n) (sym drawn) (later_twice m.ids p.ids),
        is ∙ ap (λ (n : N). record p { ids = n }) (sym drawn),
      )
  lacks_by (Some chunk) p q is = is

  pub lacks_drawn : (tells : Bool) (p q : Peer I D S M N) → q ≡ record p { ids = ids_after_told m tells p }
      → LacksOffer m (tells && not (is_some (halves_pending m p).local)) p q
  lacks_drawn true p q is = lacks_by (halves_pending m p).local p q is
  lacks_drawn false p q is = is

  -- or without
  pub lacks_undrawn : (draws : Bool) (p q : Peer I D S M N) → q ≡ p → LacksOffer m draws p q
  lacks_undrawn true p q is =
      let same : q.ids ≡ p.ids = ap (λ (x : Peer I D S M N). x.ids) is in
      (subst (λ (n : N). Later m.ids p.ids n) (sym same) (later_none m.ids p.ids), is ∙ ap (λ (n : N). record p { ids = n }) (sym same))
  lacks_undrawn false p q is = is
