-- Of what a peer over plain parts shows, packets of application data are of the DTLS part.
use Rattle.std.proofs.Common.{◌≡◌, ◌++◌, ◌∷◌, ◌⊎◌, ◌<◌, ◌≤◌, inl, inr, ℕ, List, [], map, append-nil, refl, sym, ap, subst, arith}
use Rattle.rtc_wire.specs.declared.transmit.Transmit.{Transmit}
use Rattle.rtc_parts.specs.Among.{Member, Among}
use Rattle.rtc_parts.proofs.AmongLemmas.{member-append, member-left}
use Rattle.rtc_parts.specs.IceActs.{IceMoved, ice_moved-append}
use Rattle.rtc_parts.specs.IceWords.{ice_taken}
use Rattle.rtc_parts.specs.DtlsWords.{dtls_taken}
use Rattle.rtc_parts.specs.MediaActs.{MediaAct, MediaGiven, MediaTaken, MediaStirred, MediaMoved, media_moved-append}
use Rattle.rtc_plain_ice.specs.Contents.{IceContents, fresh_ice}
use Rattle.rtc_plain_ice.specs.Datagrams.{BeginsBelowTwo}
use Rattle.rtc_plain_ice.specs.PlainMeaning.{plain_ice}
use Rattle.rtc_plain_ice.proofs.DatagramLemmas.{taken_begins}
use Rattle.rtc_plain_media.specs.Feedback.{IsMarked, EachBegins}
use Rattle.rtc_plain_media.specs.MediaContents.{MediaContents, fresh_media}
use Rattle.rtc_plain_media.specs.PlainMediaMeaning.{plain_media_meaning}
use Rattle.rtc_plain_media.specs.Sendings.{datagrams_taken, taken_begin}
use Rattle.rtc_peer_laws.specs.PeerActs.{PeerActs, acts_with, media_taken, contents_taken}
use Rattle.rtc_peer_laws.proofs.ActWords.{taken_first, taken_second, through}
use Rattle.rtc_peer_laws.specs.JoinedPeers.{CarriesData}
use Rattle.rtc_peer_laws.specs.ShownData.{ShownSince}

-- a datagram of the agent is that of something taken
transmit_of : (x : List ℕ) (transmits : List Transmit) → Member x (map (λ (transmit : Transmit). transmit.contents) transmits)
    → (t : Transmit) × (Member t transmits × (x ≡ t.contents))
transmit_of x [] m = absurd m
transmit_of x (t ∷ transmits) (inl e) = (t, (inl refl, e))
transmit_of x (t ∷ transmits) (inr m) = let r = transmit_of x transmits m in (r.0, (inr r.1.0, r.1.1))

begins_not : (kind : ℕ) (bytes : List ℕ) → 2 ≤ kind → BeginsBelowTwo (kind ∷ bytes) → ⊥
begins_not kind bytes least h = absurd (omega (arith, least, h))

marked_not : (kind : ℕ) (bytes : List ℕ) → kind < 128 → IsMarked (kind ∷ bytes) → ⊥
marked_not kind bytes below h = let is : kind ≡ 128 = cc (h) in absurd (omega (arith, below, is))

each_marked : (x : List ℕ) (datagrams : List (List ℕ)) → EachBegins datagrams → Member x datagrams → IsMarked x
each_marked x [] h m = absurd m
each_marked x (d ∷ datagrams) h (inl e) = subst (λ (y : List ℕ). IsMarked y) (sym e) h.0
each_marked x (d ∷ datagrams) h (inr m) = each_marked x datagrams h.1 m

same_taken : (acts : List MediaAct) → media_taken acts ≡ datagrams_taken acts
same_taken [] = refl
same_taken (MediaTaken d ∷ acts) = ap (λ l. d ∷ l) (same_taken acts)
same_taken (MediaGiven p ∷ acts) = same_taken acts
same_taken (MediaStirred why ∷ acts) = same_taken acts

fresh_begin : EachBegins fresh_media.datagrams
fresh_begin = tt

-- a datagram with the content type of a DTLS record is of the DTLS part
pub shown_kind : (kind : ℕ) → 2 ≤ kind → kind < 128 → (past : PeerActs) (shown packets : List (List ℕ)) (ice : IceContents) (media : MediaContents)
    → ShownSince past shown ice media packets → (bytes : List ℕ) → Member (kind ∷ bytes) shown → Member (kind ∷ bytes) (dtls_taken past.dtls)
shown_kind kind least below past shown packets ice media h bytes m =
    by
    (member-append (kind ∷ bytes) (map (λ (transmit : Transmit). transmit.contents) (ice_taken past.ice)) (dtls_taken past.dtls ++ media_taken past.media)
    (h.sent.each (kind ∷ bytes) (member-left (kind ∷ bytes) shown packets m)))
  where
    by : Member (kind ∷ bytes) (map (λ (transmit : Transmit). transmit.contents) (ice_taken past.ice))
        ⊎ Member (kind ∷ bytes) (dtls_taken past.dtls ++ media_taken past.media) → Member (kind ∷ bytes) (dtls_taken past.dtls)
    by (inl n) =
        let t = transmit_of (kind ∷ bytes) (ice_taken past.ice) n in
        let low = taken_begins fresh_ice ice past.ice t.0 refl h.ice_went t.1.0 in
        absurd (begins_not kind bytes least (subst (λ (x : List ℕ). BeginsBelowTwo x) (sym t.1.1) low))
    by (inr n) = elim (member-append (kind ∷ bytes) (dtls_taken past.dtls) (media_taken past.media) n) [
      | inl k ↦ k
      | inr k ↦ absurd (marked_not kind bytes below (each_marked (kind ∷ bytes) (datagrams_taken past.media)
          (taken_begin fresh_media media past.media fresh_begin h.media_went)
          (subst (λ (l : List (List ℕ)). Member (kind ∷ bytes) l) (same_taken past.media) k)))
    ]

pub shown_data : (past : PeerActs) (shown packets : List (List ℕ)) (ice : IceContents) (media : MediaContents) → ShownSince past shown ice media packets
    → CarriesData shown (dtls_taken past.dtls)
shown_data past shown packets ice media h = record {
  each = λ bytes m. shown_kind 23 (omega arith) (omega arith) past shown packets ice media h bytes m;
}

pub shown_on : (past acts : PeerActs) (before after : List (List ℕ)) (ice ice' : IceContents) (media media' : MediaContents) (packets packets' : List (List ℕ))
    → ShownSince past before ice media packets → IceMoved plain_ice ice acts.ice ice' → MediaMoved plain_media_meaning media acts.media media'
    → Among (after ++ packets') (contents_taken acts ++ packets) → ShownSince (acts_with past acts) (before ++ after) ice' media' packets'
shown_on past acts before after ice ice' media media' packets packets' h i n sent = record {
  ice_went = ice_moved-append plain_ice fresh_ice ice ice' past.ice acts.ice h.ice_went i;
  media_went = media_moved-append plain_media_meaning fresh_media media media' past.media acts.media h.media_went n;
  sent =
      subst (λ (l : List (List ℕ)). Among ((before ++ after) ++ packets') l) (append-nil (contents_taken (acts_with past acts)))
      (through before after packets packets' (contents_taken (acts_with past acts)) (contents_taken past) (contents_taken acts) []
      (λ x m. taken_first x past acts m) (λ x m. taken_second x past acts m)
      (subst (λ (l : List (List ℕ)). Among (before ++ packets) l) (sym (append-nil (contents_taken past))) h.sent) sent);
}
