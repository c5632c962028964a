-- What calls did to the parts of a peer, one after the other, and what single acts did.
use Rattle.std.proofs.Common.{◌≡◌, ◌++◌, inl, inr, ℕ, Bool, List, [], map, Option, append-nil, refl, sym, ap, subst, ◌∙◌}
use Rattle.std.proofs.lemmas.List.{map-append}
use Rattle.rtc_wire.specs.declared.transmit.Transmit.{Transmit}
use Rattle.rtc_parts.specs.Among.{Member, Among}
use Rattle.rtc_parts.proofs.AmongLemmas.{member-append, member-left, member-right, among_none, among_self}
use Rattle.rtc_parts.specs.AssociationActs.{moved-append}
use Rattle.rtc_parts.specs.AssociationLaws.{AssociationLaws}
use Rattle.rtc_parts.specs.AssociationWords.{given, taken}
use Rattle.rtc_parts.proofs.AssociationLemmas.{given-append, taken-append}
use Rattle.rtc_parts.specs.IceActs.{IceAct, IceMoved, ice_moved-append}
use Rattle.rtc_parts.specs.IceWords.{ice_given, ice_taken}
use Rattle.rtc_parts.proofs.IceLemmas.{ice_given-append}
use Rattle.rtc_parts.specs.DtlsActs.{DtlsAct, DtlsMoved, dtls_moved-append}
use Rattle.rtc_parts.specs.DtlsState.{DtlsState}
use Rattle.rtc_parts.specs.DtlsWords.{dtls_given, dtls_taken, dtls_sent, dtls_got}
use Rattle.rtc_parts.proofs.DtlsLemmas.{dtls_given-append, dtls_sent-append, dtls_got-append}
use Rattle.rtc_parts.specs.MediaActs.{MediaAct, MediaMoved, media_moved-append}
use Rattle.rtc_sctp_laws.specs.StreamActs.{AssociationDid}
use Rattle.rtc_sctp_laws.specs.StreamMessages.{StreamMessage, write_act, read_act, writes_of, reads_of, pushed_packets}
use Rattle.rtc_sctp_laws.proofs.ActLemmas.{named-append}
use Rattle.rtc_sctp_laws.proofs.ClosingPolls.{started_moved}
use Rattle.rtc_peer_core.specs.Meanings.{Meanings}
use Rattle.rtc_peer_transport.specs.declared.polled_peer.PolledPeer.{PolledPeer}
use Rattle.rtc_peer_laws.specs.PeerActs.{acts_with, Came, peer_acts, media_given, media_taken, ice_moments, dtls_moments, media_moments, contents_taken}
use Rattle.rtc_peer_laws.specs.PeerActs.{dtls_roles, queue_and_role, roles_after}
use Rattle.rtc_peer_laws.specs.Acts.{PeerDid}
use Rattle.rtc_peer_laws.proofs.ActWords.{media_given-append, ice_moments-append, dtls_moments-append, dtls_roles-append, media_moments-append, roles_after-append, writes_of-append, reads_of-append}
use Rattle.rtc_peer_laws.proofs.ActWords.{among_with, among_pair, taken_first, taken_second, through}

-- what stands to be sent stays, and the role does
same_queue : {D : Type 0} (d e : DtlsState D) → queue_and_role e ≡ queue_and_role d → e.packets ≡ d.packets
same_queue d e is = ap (λ (x : List (List ℕ) × Option Bool). x.0) is

same_role : {D : Type 0} (d e : DtlsState D) → queue_and_role e ≡ queue_and_role d → e.active ≡ d.active
same_role d e is = ap (λ (x : List (List ℕ) × Option Bool). x.1) is

module _ {I D S M E X T W N : Type 0} (m : Meanings I D S M E X T W N) where
  -- all parts are as they were, with what stands to be sent and shown
  abbrev pub SameParts : PolledPeer I D S M N → PolledPeer I D S M N → Type 0
  SameParts p q =
      (q.core.ice ≡ p.core.ice)
      × (q.core.dtls.instance ≡ p.core.dtls.instance)
      × (queue_and_role q.core.dtls ≡ queue_and_role p.core.dtls)
      × (q.core.sctp ≡ p.core.sctp)
      × (q.core.media ≡ p.core.media)

  -- where the peer afterwards is another
  pub did_by : (came : Came) (moments : List ℕ) (shown : List (List ℕ)) (wrote heard : List StreamMessage) (p n q : PolledPeer I D S M N) → q ≡ n
      → PeerDid m came moments shown wrote heard p n → PeerDid m came moments shown wrote heard p q
  did_by came moments shown wrote heard p n q is h = subst (λ (x : PolledPeer I D S M N). PeerDid m came moments shown wrote heard p x) (sym is) h

  same_among : (xs ys : List (List ℕ)) → xs ≡ ys → Among xs ys
  same_among xs ys is = subst (λ (l : List (List ℕ)). Among l ys) (sym is) (among_self ys)

  -- acts of the agent, where of the streams the association stays, and what is to be sent first
  pub agent_acts_did : (came : Came) (moments : List ℕ) (shown : List (List ℕ)) (p q : PolledPeer I D S M N) (acts : List IceAct)
      → IceMoved m.ice p.core.ice acts q.core.ice → Among (ice_given acts) came.ice → Among (ice_moments acts) moments
      → Among shown (map (λ (transmit : Transmit). transmit.contents) (ice_taken acts)) → q.core.dtls.instance ≡ p.core.dtls.instance
      → queue_and_role q.core.dtls ≡ queue_and_role p.core.dtls → q.core.sctp.association ≡ p.core.sctp.association → q.core.sctp.pushed ≡ p.core.sctp.pushed
      → q.core.media ≡ p.core.media → PeerDid m came moments shown [] [] p q
  agent_acts_did came moments shown p q acts went came_is timed shows dtls queue association pushed media = record {
    acts = peer_acts acts [] [] [];
    went = record { ice = went; dtls = dtls; association = association; media = media };
    given_ice = came_is;
    given_dtls = among_none came.dtls;
    given_media = among_none came.media;
    timed_ice = timed;
    timed_dtls = among_none moments;
    timed_media = among_none moments;
    role = same_role p.core.dtls q.core.dtls queue;
    sent = shown_of;
    handed = among_none [];
    all_handed = λ started. refl;
    relayed = same_among _ _ (ap pushed_packets pushed);
    wrote_is = refl;
    heard_is = refl;
    named = λ n. tt;
  }
    where
      shown_of : Among (shown ++ q.core.dtls.packets) (contents_taken (peer_acts acts [] [] []) ++ p.core.dtls.packets)
      shown_of = record {
        each = λ x h. elim (member-append x shown q.core.dtls.packets h) [
          | inl n ↦
              member-left x (contents_taken (peer_acts acts [] [] [])) p.core.dtls.packets
              (member-left x (map (λ (transmit : Transmit). transmit.contents) (ice_taken acts)) [] (shows.each x n))
          | inr n ↦
              member-right x (contents_taken (peer_acts acts [] [] [])) p.core.dtls.packets
              (subst (λ (l : List (List ℕ)). Member x l) (same_queue p.core.dtls q.core.dtls queue) n)
        ];
      }

  -- acts of the agent
  pub ice_did : (came : Came) (moments : List ℕ) (shown : List (List ℕ)) (p q : PolledPeer I D S M N) (acts : List IceAct)
      → IceMoved m.ice p.core.ice acts q.core.ice → Among (ice_given acts) came.ice → Among (ice_moments acts) moments
      → Among shown (map (λ (transmit : Transmit). transmit.contents) (ice_taken acts)) → q.core.dtls.instance ≡ p.core.dtls.instance
      → queue_and_role q.core.dtls ≡ queue_and_role p.core.dtls → q.core.sctp ≡ p.core.sctp → q.core.media ≡ p.core.media
      → PeerDid m came moments shown [] [] p q
  ice_did came moments shown p q acts went came_is timed shows dtls packets sctp media =
      agent_acts_did came moments shown p q acts went came_is timed shows dtls packets (ap (λ s. s.association) sctp) (ap (λ s. s.pushed) sctp) media

  -- acts of the DTLS part by which nothing was sent or got; packets that were taken from it stand to be shown
  pub dtls_did : (came : Came) (moments : List ℕ) (p q : PolledPeer I D S M N) (acts : List DtlsAct)
      → DtlsMoved m.dtls p.core.dtls.instance acts q.core.dtls.instance → Among (dtls_given acts) came.dtls → Among (dtls_moments acts) moments
      → dtls_sent acts ≡ [] → dtls_got acts ≡ [] → Among q.core.dtls.packets (dtls_taken acts ++ p.core.dtls.packets)
      → q.core.dtls.active ≡ roles_after p.core.dtls.active (dtls_roles acts) → q.core.ice ≡ p.core.ice → q.core.sctp ≡ p.core.sctp → q.core.media ≡ p.core.media → PeerDid m came moments [] [] [] p q
  dtls_did came moments p q acts went came_is timed unsent none packets role ice sctp media = record {
    acts = peer_acts [] acts [] [];
    went = record { ice = ice; dtls = went; association = ap (λ s. s.association) sctp; media = media };
    given_ice = among_none came.ice;
    given_dtls = came_is;
    given_media = among_none came.media;
    timed_ice = among_none moments;
    timed_dtls = timed;
    timed_media = among_none moments;
    role = role;
    sent =
        subst (λ (l : List (List ℕ)). Among q.core.dtls.packets (l ++ p.core.dtls.packets)) (sym (append-nil (dtls_taken acts))) packets;
    handed = among_none (dtls_got acts);
    all_handed = λ started. sym none;
    relayed = same_among _ _ (ap (λ l. l ++ pushed_packets q.core.sctp.pushed) unsent ∙ ap (λ s. pushed_packets s.pushed) sctp);
    wrote_is = refl;
    heard_is = refl;
    named = λ n. tt;
  }

  -- acts of the media part
  pub media_did : (came : Came) (moments : List ℕ) (shown : List (List ℕ)) (p q : PolledPeer I D S M N) (acts : List MediaAct)
      → MediaMoved m.media p.core.media acts q.core.media → Among (media_given acts) came.media → Among (media_moments acts) moments
      → Among shown (media_taken acts) → q.core.ice ≡ p.core.ice → q.core.dtls.instance ≡ p.core.dtls.instance
      → queue_and_role q.core.dtls ≡ queue_and_role p.core.dtls → q.core.sctp ≡ p.core.sctp → PeerDid m came moments shown [] [] p q
  media_did came moments shown p q acts went came_is timed shows ice dtls queue sctp = record {
    acts = peer_acts [] [] [] acts;
    went = record { ice = ice; dtls = dtls; association = ap (λ s. s.association) sctp; media = went };
    given_ice = among_none came.ice;
    given_dtls = among_none came.dtls;
    given_media = came_is;
    timed_ice = among_none moments;
    timed_dtls = among_none moments;
    timed_media = timed;
    role = same_role p.core.dtls q.core.dtls queue;
    sent = record {
      each = λ x h. elim (member-append x shown q.core.dtls.packets h) [
        | inl n ↦ member-left x (media_taken acts) p.core.dtls.packets (shows.each x n)
        | inr n ↦ member-right x (media_taken acts) p.core.dtls.packets (subst (λ (l : List (List ℕ)). Member x l) (same_queue p.core.dtls q.core.dtls queue) n)
      ];
    };
    handed = among_none [];
    all_handed = λ started. refl;
    relayed = same_among _ _ (ap (λ s. pushed_packets s.pushed) sctp);
    wrote_is = refl;
    heard_is = refl;
    named = λ n. tt;
  }

  -- nothing was done
  pub still_did : (came : Came) (moments : List ℕ) (p q : PolledPeer I D S M N) → SameParts p q → PeerDid m came moments [] [] [] p q
  still_did came moments p q same =
      ice_did came moments [] p q [] same.0 (among_none came.ice) (among_none moments) (among_none []) same.1 same.2 same.3 same.4

  -- acts of the association to which nothing was given
  pub streams_did : (came : Came) (moments : List ℕ) (outs : List (List ℕ)) (tells : _) (wrote heard : List StreamMessage) (p q : PolledPeer I D S M N)
      → AssociationDid m.association [] outs tells wrote heard p.core.sctp.association q.core.sctp.association
      → pushed_packets q.core.sctp.pushed ≡ pushed_packets p.core.sctp.pushed ++ outs → q.core.ice ≡ p.core.ice
      → q.core.dtls.instance ≡ p.core.dtls.instance → queue_and_role q.core.dtls ≡ queue_and_role p.core.dtls → q.core.media ≡ p.core.media
      → PeerDid m came moments [] wrote heard p q
  streams_did came moments outs tells wrote heard p q did pushed ice dtls queue media = record {
    acts = peer_acts [] [] did.acts [];
    went = record { ice = ice; dtls = dtls; association = did.went; media = media };
    given_ice = among_none came.ice;
    given_dtls = among_none came.dtls;
    given_media = among_none came.media;
    timed_ice = among_none moments;
    timed_dtls = among_none moments;
    timed_media = among_none moments;
    role = same_role p.core.dtls q.core.dtls queue;
    sent = same_among _ _ (same_queue p.core.dtls q.core.dtls queue);
    handed = subst (λ (l : List (List ℕ)). Among l []) (sym did.given_is) (among_none []);
    all_handed = λ started. did.given_is;
    relayed = record {
      each = λ x h. elim (member-append x (pushed_packets p.core.sctp.pushed) outs (subst (λ (l : List (List ℕ)). Member x l) pushed h)) [
        | inl n ↦ member-right x (taken did.acts) (pushed_packets p.core.sctp.pushed) n
        | inr n ↦
            member-left x (taken did.acts) (pushed_packets p.core.sctp.pushed)
            (subst (λ (l : List (List ℕ)). Member x l) (sym did.taken_is) n)
      ];
    };
    wrote_is = did.wrote_is;
    heard_is = did.heard_is;
    named = did.named;
  }

  module _ (laws : AssociationLaws m.association) where
    -- one call after the other
    pub did_on : (came : Came) (moments : List ℕ) (s s' : List (List ℕ)) (w w' h h' : List StreamMessage) (p q r : PolledPeer I D S M N)
        → PeerDid m came moments s w h p q → PeerDid m came moments s' w' h' q r → PeerDid m came moments (s ++ s') (w ++ w') (h ++ h') p r
    did_on came moments s s' w w' h h' p q r a b = record {
      acts = acts_with a.acts b.acts;
      went = record {
        ice = ice_moved-append m.ice _ q.core.ice _ a.acts.ice b.acts.ice a.went.ice b.went.ice;
        dtls = dtls_moved-append m.dtls _ q.core.dtls.instance _ a.acts.dtls b.acts.dtls a.went.dtls b.went.dtls;
        association = moved-append m.association _ q.core.sctp.association _ a.acts.association b.acts.association a.went.association b.went.association;
        media = media_moved-append m.media _ q.core.media _ a.acts.media b.acts.media a.went.media b.went.media;
      };
      given_ice = among_with _ _ _ _ (ice_given-append a.acts.ice b.acts.ice) a.given_ice b.given_ice;
      given_dtls = among_with _ _ _ _ (dtls_given-append a.acts.dtls b.acts.dtls) a.given_dtls b.given_dtls;
      given_media = among_with _ _ _ _ (media_given-append a.acts.media b.acts.media) a.given_media b.given_media;
      timed_ice = among_with _ _ _ _ (ice_moments-append a.acts.ice b.acts.ice) a.timed_ice b.timed_ice;
      timed_dtls = among_with _ _ _ _ (dtls_moments-append a.acts.dtls b.acts.dtls) a.timed_dtls b.timed_dtls;
      timed_media = among_with _ _ _ _ (media_moments-append a.acts.media b.acts.media) a.timed_media b.timed_media;
      role =
          b.role
          ∙ ap (λ (o : Option Bool). roles_after o (dtls_roles b.acts.dtls)) a.role
          ∙ sym (roles_after-append p.core.dtls.active (dtls_roles a.acts.dtls) (dtls_roles b.acts.dtls))
          ∙ ap (roles_after p.core.dtls.active) (sym (dtls_roles-append a.acts.dtls b.acts.dtls));
      sent =
          through s s' q.core.dtls.packets r.core.dtls.packets (contents_taken (acts_with a.acts b.acts)) (contents_taken a.acts) (contents_taken b.acts)
          p.core.dtls.packets (λ x n. taken_first x a.acts b.acts n) (λ x n. taken_second x a.acts b.acts n) a.sent b.sent;
      handed =
          among_pair _ _ (given a.acts.association) (given b.acts.association) (dtls_got a.acts.dtls) (dtls_got b.acts.dtls)
          (given-append a.acts.association b.acts.association) (dtls_got-append a.acts.dtls b.acts.dtls) a.handed b.handed;
      all_handed = λ started.
          given-append a.acts.association b.acts.association
          ∙ ap (λ l. l ++ given b.acts.association) (a.all_handed started)
          ∙ ap (λ l. dtls_got a.acts.dtls ++ l)
          (b.all_handed (started_moved m.association laws a.acts.association p.core.sctp.association q.core.sctp.association started a.went.association))
          ∙ sym (dtls_got-append a.acts.dtls b.acts.dtls);
      relayed =
          subst (λ (l : List (List ℕ)). Among (l ++ pushed_packets r.core.sctp.pushed) (taken (a.acts.association ++ b.acts.association) ++ pushed_packets p.core.sctp.pushed))
          (sym (dtls_sent-append a.acts.dtls b.acts.dtls))
          (through (dtls_sent a.acts.dtls) (dtls_sent b.acts.dtls) (pushed_packets q.core.sctp.pushed) (pushed_packets r.core.sctp.pushed)
          (taken (a.acts.association ++ b.acts.association)) (taken a.acts.association) (taken b.acts.association) (pushed_packets p.core.sctp.pushed)
          (λ x n. subst (λ (l : List (List ℕ)). Member x l) (sym (taken-append a.acts.association b.acts.association))
          (member-left x (taken a.acts.association) (taken b.acts.association) n))
          (λ x n. subst (λ (l : List (List ℕ)). Member x l) (sym (taken-append a.acts.association b.acts.association))
          (member-right x (taken a.acts.association) (taken b.acts.association) n))
          a.relayed b.relayed);
      wrote_is =
          writes_of-append a.acts.association b.acts.association
          ∙ ap (λ l. l ++ writes_of b.acts.association) a.wrote_is
          ∙ ap (λ l. map write_act w ++ l) b.wrote_is
          ∙ sym (map-append write_act w w');
      heard_is =
          reads_of-append a.acts.association b.acts.association
          ∙ ap (λ l. l ++ reads_of b.acts.association) a.heard_is
          ∙ ap (λ l. map read_act h ++ l) b.heard_is
          ∙ sym (map-append read_act h h');
      named = λ n. named-append h h' (a.named n) (b.named n);
    }
