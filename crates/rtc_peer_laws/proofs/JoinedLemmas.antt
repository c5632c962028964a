-- Two peers stay joined: what came over one DTLS part was sent over the other.
use Rattle.std.proofs.Common.{◌≡◌, ◌++◌, ◌∷◌, ◌==◌, ◌&&◌, inl, inr, ℕ, Bool, true, false, List, [], map, if◌then◌else◌, append-nil, refl, sym, ap, subst, ◌∙◌}
use Rattle.rtc_parts.specs.Among.{Member, Among}
use Rattle.rtc_parts.proofs.AmongLemmas.{member-append, member-left, member-right, among_none}
use Rattle.rtc_parts.specs.AssociationActs.{AssociationAct, Moved, Wrote, Read}
use Rattle.rtc_parts.specs.AssociationWords.{given, taken, written, read}
use Rattle.rtc_parts.proofs.AssociationLemmas.{taken-append, written-append, read-append}
use Rattle.rtc_parts.specs.DtlsActs.{DtlsAct, DtlsMoved, Given, Taken, Sent, Got, Stirred, dtls_moved-append}
use Rattle.rtc_parts.specs.DtlsWords.{dtls_given, dtls_taken, dtls_sent, dtls_got}
use Rattle.rtc_parts.proofs.DtlsLemmas.{dtls_given-append, dtls_taken-append, dtls_sent-append, dtls_got-append}
use Rattle.rtc_plain_dtls.specs.Contents.{DtlsContents, fresh_dtls}
use Rattle.rtc_plain_dtls.specs.PlainMeaning.{plain_dtls}
use Rattle.rtc_plain_dtls.proofs.DataLemmas.{got_came, taken_sent}
use Rattle.rtc_assoc_state.specs.Contents.{fresh_contents}
use Rattle.rtc_assoc_state.specs.PlainMeaning.{plain_meaning}
use Rattle.rtc_assoc.specs.Joined.{LeftMoves, RightMoves, fresh_ends}
use Rattle.rtc_sctp_laws.specs.StreamMessages.{StreamMessage, write_act, read_act, writes_of, reads_of}
use Rattle.rtc_peer_laws.specs.PeerActs.{PeerActs}
use Rattle.rtc_peer_laws.proofs.ActWords.{through}
use Rattle.rtc_peer_laws.specs.JoinedPeers.{PacketParts, PartsPast, past_with, CarriesData, AreUnused, ends_of, PeersJoined}

-- where application data came among acts
split_got : (bytes : List ℕ) (acts : List DtlsAct) → Member bytes (dtls_got acts)
    → (before : List DtlsAct) × ((after : List DtlsAct) × (acts ≡ before ++ Got bytes ∷ after))
split_got bytes [] m = absurd m
split_got bytes (Got b ∷ acts) (inl e) = ([], (acts, ap (λ x. Got x ∷ acts) (sym e)))
split_got bytes (Got b ∷ acts) (inr m) = let r = split_got bytes acts m in (Got b ∷ r.0, (r.1.0, ap (λ l. Got b ∷ l) r.1.1))
split_got bytes (Given b ∷ acts) m = let r = split_got bytes acts m in (Given b ∷ r.0, (r.1.0, ap (λ l. Given b ∷ l) r.1.1))
split_got bytes (Taken b ∷ acts) m = let r = split_got bytes acts m in (Taken b ∷ r.0, (r.1.0, ap (λ l. Taken b ∷ l) r.1.1))
split_got bytes (Sent b ∷ acts) m = let r = split_got bytes acts m in (Sent b ∷ r.0, (r.1.0, ap (λ l. Sent b ∷ l) r.1.1))
split_got bytes (Stirred c ∷ acts) m = let r = split_got bytes acts m in (Stirred c ∷ r.0, (r.1.0, ap (λ l. Stirred c ∷ l) r.1.1))

-- where a packet was taken among acts
split_taken : (packet : List ℕ) (acts : List DtlsAct) → Member packet (dtls_taken acts)
    → (before : List DtlsAct) × ((after : List DtlsAct) × (acts ≡ before ++ Taken packet ∷ after))
split_taken packet [] m = absurd m
split_taken packet (Taken b ∷ acts) (inl e) = ([], (acts, ap (λ x. Taken x ∷ acts) (sym e)))
split_taken packet (Taken b ∷ acts) (inr m) = let r = split_taken packet acts m in (Taken b ∷ r.0, (r.1.0, ap (λ l. Taken b ∷ l) r.1.1))
split_taken packet (Given b ∷ acts) m = let r = split_taken packet acts m in (Given b ∷ r.0, (r.1.0, ap (λ l. Given b ∷ l) r.1.1))
split_taken packet (Got b ∷ acts) m = let r = split_taken packet acts m in (Got b ∷ r.0, (r.1.0, ap (λ l. Got b ∷ l) r.1.1))
split_taken packet (Sent b ∷ acts) m = let r = split_taken packet acts m in (Sent b ∷ r.0, (r.1.0, ap (λ l. Sent b ∷ l) r.1.1))
split_taken packet (Stirred c ∷ acts) m = let r = split_taken packet acts m in (Stirred c ∷ r.0, (r.1.0, ap (λ l. Stirred c ∷ l) r.1.1))

member_is : {A : Type 0} (x : A) (l k : List A) → l ≡ k → Member x k → Member x l
member_is {A} x l k is h = subst (λ (i : List A). Member x i) (sym is) h

-- application data that came at one side was taken from the association of the other
crosses : (p q : DtlsContents) (mine theirs : List DtlsAct) (pushed packets : List (List ℕ)) (bytes : List ℕ) → DtlsMoved plain_dtls fresh_dtls mine p
    → DtlsMoved plain_dtls fresh_dtls theirs q → CarriesData (dtls_given mine) (dtls_taken theirs) → Among (dtls_sent theirs ++ pushed) packets
    → Member bytes (dtls_got mine) → Member bytes packets
crosses p q mine theirs pushed packets bytes here there fed relayed got =
    let s = split_got bytes mine got in
    let came = got_came fresh_dtls p s.0 s.1.0 bytes refl (subst (λ (l : List DtlsAct). DtlsMoved plain_dtls fresh_dtls l p) s.1.1 here) in
    let given_all = member_is (23 ∷ bytes) (dtls_given mine) (dtls_given s.0 ++ dtls_given (Got bytes ∷ s.1.0))
    (ap dtls_given s.1.1 ∙ dtls_given-append s.0 (Got bytes ∷ s.1.0)) (member-left (23 ∷ bytes) (dtls_given s.0) (dtls_given (Got bytes ∷ s.1.0)) came) in
    let t = split_taken (23 ∷ bytes) theirs (fed.each bytes given_all) in
    let sent = taken_sent fresh_dtls q t.0 t.1.0 bytes refl (subst (λ (l : List DtlsAct). DtlsMoved plain_dtls fresh_dtls l q) t.1.1 there) in
    let sent_all = member_is bytes (dtls_sent theirs) (dtls_sent t.0 ++ dtls_sent (Taken (23 ∷ bytes) ∷ t.1.0))
    (ap dtls_sent t.1.1 ∙ dtls_sent-append t.0 (Taken (23 ∷ bytes) ∷ t.1.0))
    (member-left bytes (dtls_sent t.0) (dtls_sent (Taken (23 ∷ bytes) ∷ t.1.0)) sent) in
    relayed.each bytes (member-left bytes (dtls_sent theirs) pushed sent_all)

-- one call more of one side
module _ (past : PartsPast) (parts after : PacketParts) (acts : PeerActs) (dtls : DtlsMoved plain_dtls parts.dtls acts.dtls after.dtls) (handed : Among (given acts.association) (dtls_got acts.dtls)) (relayed : Among (dtls_sent acts.dtls ++ after.pushed) (taken acts.association ++ parts.pushed)) where
  moved_on : DtlsMoved plain_dtls fresh_dtls past.dtls parts.dtls → DtlsMoved plain_dtls fresh_dtls (past_with past acts).dtls after.dtls
  moved_on h = dtls_moved-append plain_dtls fresh_dtls parts.dtls after.dtls past.dtls acts.dtls h dtls

  given_on : (came others : List (List ℕ)) → Among (dtls_given acts.dtls) came → CarriesData came others → CarriesData (dtls_given past.dtls) others
      → CarriesData (dtls_given (past_with past acts).dtls) others
  given_on came others now more before = record {
    each = λ bytes h. elim (member-append (23 ∷ bytes) (dtls_given past.dtls) (dtls_given acts.dtls)
        (subst (λ (l : List (List ℕ)). Member (23 ∷ bytes) l) (dtls_given-append past.dtls acts.dtls) h)) [
          | inl k ↦ before.each bytes k
          | inr k ↦ more.each bytes (now.each (23 ∷ bytes) k)
        ];
  }

  taken_on : (others : List (List ℕ)) → CarriesData others (dtls_taken past.dtls) → CarriesData others (dtls_taken (past_with past acts).dtls)
  taken_on others before = record {
    each = λ bytes h. member_is (23 ∷ bytes) (dtls_taken (past_with past acts).dtls) (dtls_taken past.dtls ++ dtls_taken acts.dtls)
        (dtls_taken-append past.dtls acts.dtls) (member-left (23 ∷ bytes) (dtls_taken past.dtls) (dtls_taken acts.dtls) (before.each bytes h));
  }

  relayed_on : Among (dtls_sent past.dtls ++ parts.pushed) (taken past.association)
      → Among (dtls_sent (past_with past acts).dtls ++ after.pushed) (taken (past_with past acts).association)
  relayed_on before =
      subst (λ (l : List (List ℕ)). Among (l ++ after.pushed) (taken (past.association ++ acts.association))) (sym (dtls_sent-append past.dtls acts.dtls))
      (subst (λ (l : List (List ℕ)). Among ((dtls_sent past.dtls ++ dtls_sent acts.dtls) ++ after.pushed) l) (append-nil (taken (past.association ++ acts.association)))
      (through (dtls_sent past.dtls) (dtls_sent acts.dtls) parts.pushed after.pushed (taken (past.association ++ acts.association)) (taken past.association)
      (taken acts.association) []
      (λ x h. member_is x (taken (past.association ++ acts.association)) (taken past.association ++ taken acts.association)
      (taken-append past.association acts.association) (member-left x (taken past.association) (taken acts.association) h))
      (λ x h. member_is x (taken (past.association ++ acts.association)) (taken past.association ++ taken acts.association)
      (taken-append past.association acts.association) (member-right x (taken past.association) (taken acts.association) h))
      (subst (λ (l : List (List ℕ)). Among (dtls_sent past.dtls ++ parts.pushed) l) (sym (append-nil (taken past.association))) before) relayed))

  handed_on : (q : DtlsContents) (theirs : List DtlsAct) (pushed packets : List (List ℕ)) → DtlsMoved plain_dtls fresh_dtls past.dtls parts.dtls
      → DtlsMoved plain_dtls fresh_dtls theirs q → CarriesData (dtls_given (past_with past acts).dtls) (dtls_taken theirs)
      → Among (dtls_sent theirs ++ pushed) packets → Among (given acts.association) packets
  handed_on q theirs pushed packets here there fed sent = record {
    each = λ x h. crosses after.dtls q (past_with past acts).dtls theirs pushed packets x (moved_on here) there fed sent
        (member_is x (dtls_got (past_with past acts).dtls) (dtls_got past.dtls ++ dtls_got acts.dtls) (dtls_got-append past.dtls acts.dtls)
        (member-right x (dtls_got past.dtls) (dtls_got acts.dtls) (handed.each x h)));
  }

pub left_stays : (a b : PartsPast) (left after right : PacketParts) (acts : PeerActs) (came : List (List ℕ)) → DtlsMoved plain_dtls left.dtls acts.dtls after.dtls
    → Moved plain_meaning left.association acts.association after.association → Among (dtls_given acts.dtls) came → CarriesData came (dtls_taken b.dtls)
    → Among (given acts.association) (dtls_got acts.dtls) → Among (dtls_sent acts.dtls ++ after.pushed) (taken acts.association ++ left.pushed)
    → PeersJoined a left b right → PeersJoined (past_with a acts) after b right
left_stays a b left after right acts came dtls went now more handed relayed j =
    let fed = given_on a left after acts dtls handed relayed came (dtls_taken b.dtls) now more j.given_left in
    record {
      left_dtls = moved_on a left after acts dtls handed relayed j.left_dtls;
      right_dtls = j.right_dtls;
      moves = LeftMoves acts.association ∷ j.moves;
      run = (
        ends_of a left b right,
        (
          j.run,
          (
            went,
            handed_on a left after acts dtls handed relayed right.dtls b.dtls right.pushed (taken b.association) j.left_dtls j.right_dtls fed j.relayed_right,
            refl,
          ),
        ),
      );
      given_left = fed;
      given_right = taken_on a left after acts dtls handed relayed (dtls_given b.dtls) j.given_right;
      relayed_left = relayed_on a left after acts dtls handed relayed j.relayed_left;
      relayed_right = j.relayed_right;
    }

pub right_stays : (a b : PartsPast) (left right after : PacketParts) (acts : PeerActs) (came : List (List ℕ)) → DtlsMoved plain_dtls right.dtls acts.dtls after.dtls
    → Moved plain_meaning right.association acts.association after.association → Among (dtls_given acts.dtls) came → CarriesData came (dtls_taken a.dtls)
    → Among (given acts.association) (dtls_got acts.dtls) → Among (dtls_sent acts.dtls ++ after.pushed) (taken acts.association ++ right.pushed)
    → PeersJoined a left b right → PeersJoined a left (past_with b acts) after
right_stays a b left right after acts came dtls went now more handed relayed j =
    let fed = given_on b right after acts dtls handed relayed came (dtls_taken a.dtls) now more j.given_right in
    record {
      left_dtls = j.left_dtls;
      right_dtls = moved_on b right after acts dtls handed relayed j.right_dtls;
      moves = RightMoves acts.association ∷ j.moves;
      run = (
        ends_of a left b right,
        (
          j.run,
          (
            went,
            handed_on b right after acts dtls handed relayed left.dtls a.dtls left.pushed (taken a.association) j.right_dtls j.left_dtls fed j.relayed_left,
            refl,
          ),
        ),
      );
      given_left = taken_on b right after acts dtls handed relayed (dtls_given a.dtls) j.given_left;
      given_right = fed;
      relayed_left = j.relayed_left;
      relayed_right = relayed_on b right after acts dtls handed relayed j.relayed_right;
    }

-- parts that were not used
none_among : (l k : List (List ℕ)) → l ≡ [] → Among l k
none_among l k is = subst (λ (x : List (List ℕ)). Among x k) (sym is) (among_none k)

none_stands : (sent pushed k : List (List ℕ)) → sent ≡ [] → pushed ≡ [] → Among (sent ++ pushed) k
none_stands sent pushed k e f = none_among (sent ++ pushed) k (ap (λ l. l ++ pushed) e ∙ f)

pub unused_joined : (a b : PartsPast) (left right : PacketParts) → AreUnused a left → AreUnused b right → PeersJoined a left b right
unused_joined a b left right u v = record {
  left_dtls = u.dtls;
  right_dtls = v.dtls;
  moves = RightMoves b.association ∷ LeftMoves a.association ∷ [];
  run = (
    record { left = left.association; right = fresh_contents; left_acts = a.association; right_acts = [] },
    (
      (fresh_ends, (refl, (u.association, none_among (given a.association) [] u.none_handed, refl))),
      (v.association, none_among (given b.association) (taken a.association) v.none_handed, refl),
    ),
  );
  given_left = record { each = λ bytes h. absurd (u.none_given bytes h) };
  given_right = record { each = λ bytes h. absurd (v.none_given bytes h) };
  relayed_left = none_stands (dtls_sent a.dtls) left.pushed (taken a.association) u.none_sent u.none_pushed;
  relayed_right = none_stands (dtls_sent b.dtls) right.pushed (taken b.association) v.none_sent v.none_pushed;
}

-- what was written is told by the acts that write, and so with what was read
written_by : (s g : ℕ) (acts : List AssociationAct) → written s g acts ≡ written s g (writes_of acts)
written_by s g [] = refl
written_by s g (Wrote t h i b ∷ acts) = by ((t == s) && (h == g)) (written_by s g acts)
  where
    by : (c : Bool) → written s g acts ≡ written s g (writes_of acts)
        → (if c then record { identifier = i; bytes = b } ∷ written s g acts else written s g acts)
        ≡ (if c then record { identifier = i; bytes = b } ∷ written s g (writes_of acts) else written s g (writes_of acts))
    by true e = ap (λ l. record { identifier = i; bytes = b } ∷ l) e
    by false e = e
written_by s g (_ ∷ acts) = written_by s g acts

read_by : (s g : ℕ) (acts : List AssociationAct) → read s g acts ≡ read s g (reads_of acts)
read_by s g [] = refl
read_by s g (Read t h i b ∷ acts) = by ((t == s) && (h == g)) (read_by s g acts)
  where
    by : (c : Bool) → read s g acts ≡ read s g (reads_of acts)
        → (if c then record { identifier = i; bytes = b } ∷ read s g acts else read s g acts)
        ≡ (if c then record { identifier = i; bytes = b } ∷ read s g (reads_of acts) else read s g (reads_of acts))
    by true e = ap (λ l. record { identifier = i; bytes = b } ∷ l) e
    by false e = e
read_by s g (_ ∷ acts) = read_by s g acts

pub written_more : (s g : ℕ) (past acts : List AssociationAct) (wrote : List StreamMessage) → writes_of acts ≡ map write_act wrote
    → written s g (past ++ acts) ≡ written s g past ++ written s g (map write_act wrote)
written_more s g past acts wrote is =
    written-append s g past acts ∙ ap (λ l. written s g past ++ l) (written_by s g acts ∙ ap (λ l. written s g l) is)

pub read_more : (s g : ℕ) (past acts : List AssociationAct) (heard : List StreamMessage) → reads_of acts ≡ map read_act heard
    → read s g (past ++ acts) ≡ read s g past ++ read s g (map read_act heard)
read_more s g past acts heard is =
    read-append s g past acts ∙ ap (λ l. read s g past ++ l) (read_by s g acts ∙ ap (λ l. read s g l) is)

-- nothing, and a packet of no bytes, carry no application data
pub none_carries : (others : List (List ℕ)) → CarriesData [] others
none_carries others = record { each = λ bytes m. absurd m }

empty_carries : (bytes : List ℕ) → Member (23 ∷ bytes) ([] ∷ []) → ⊥
empty_carries bytes (inl e) = cc (e)
empty_carries bytes (inr m) = absurd m

pub begun_carries : (others : List (List ℕ)) → CarriesData ([] ∷ []) others
begun_carries others = record { each = λ bytes m. absurd (empty_carries bytes m) }
