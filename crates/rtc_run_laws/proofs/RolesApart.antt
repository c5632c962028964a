-- In a run a side that is not closed has the side of its association by its DTLS role, which stays; and where one side read something, the two roles are
-- not the same.
use Rattle.std.proofs.Common.{◌≡◌, ◌∙◌, not, ℕ, Bool, true, false, true≢false, List, ◌∷◌, Option, Some, None, refl, sym, ap}
use Rattle.std.specs.Prelude.{is_some}
use Rattle.rtc_parts.specs.Draws.{Draws}
use Rattle.rtc_parts.specs.DtlsActs.{DtlsMoved}
use Rattle.rtc_parts.specs.DtlsWords.{dtls_given}
use Rattle.rtc_plain_dtls.specs.Contents.{fresh_dtls, phase_is_finished}
use Rattle.rtc_plain_dtls.specs.PlainMeaning.{plain_dtls}
use Rattle.rtc_plain_media.specs.declared.plain_media_event.PlainMediaEvent.{PlainMediaEvent}
use Rattle.rtc_sctp_laws.specs.StreamMessages.{StreamMessage}
use Rattle.rtc_sctp_laws.specs.StreamUses.{any_dcep, messages_of}
use Rattle.rtc_peer_core.specs.declared.phase.Phase.TheVariants.{Closed}
use Rattle.rtc_peer_laws.specs.PeerActs.{PeerActs, dtls_roles, roles_after}
use Rattle.rtc_peer_laws.proofs.HandshakeRoles.{moved_role, roles_differ}
use Rattle.rtc_run_history.specs.declared.side.Side.{Side}
use Rattle.rtc_run_history.specs.declared.side.Side.TheVariants.{Left, Right}
use Rattle.rtc_run_history.specs.Native.{are_native}
use Rattle.rtc_run_history.specs.PairState.{rtc_at}
use Rattle.rtc_run_history.specs.Past.{Entry, steps_of}
use Rattle.rtc_run_history.specs.Runs.{Reached}
use Rattle.rtc_run_history.specs.Sides.{other_side}
use Rattle.rtc_run_laws.specs.ChannelUses.{ChannelUse}
use Rattle.rtc_run_laws.specs.NewPairs.{IsNewPair}
use Rattle.rtc_run_laws.specs.PlainPairs.{HasExchanged, PlainPair, PlainPolled, ShookHands, plain_over}
use Rattle.rtc_run_laws.proofs.AnnouncedStreams.{HasUseOver}
use Rattle.rtc_run_laws.proofs.FinishedSides.{read_finished}
use Rattle.rtc_run_laws.proofs.OwnedRuns.{LivesOnSide}
use Rattle.rtc_run_laws.proofs.RoleSides.{HasRole, run_role}
use Rattle.rtc_run_laws.proofs.RoleStarts.{enters_role}
use Rattle.rtc_run_laws.proofs.ReadOpenings.{use_read}
use Rattle.rtc_run_laws.proofs.StandingSides.{SideStood}
use Rattle.rtc_run_laws.proofs.StepsExchange.{plain_over_laws}
use Rattle.rtc_run_laws.proofs.UnusedPairs.{new_unstarted, new_unused}

some_is : (a b : Bool) → Some a ≡ Some b → a ≡ b
some_is a b h = cc

none_some : (a : Bool) → None ≡ Some a → ⊥
none_some a h = cc

not_self : (c : Bool) → c ≡ not c → ⊥
not_self true h = true≢false h
not_self false h = true≢false (sym h)

-- a peer has no other DTLS role than this one
abbrev pub HasAtMost : {N : Type 0} → (role : Bool) → PlainPolled N → Type 0
HasAtMost role p = (k : Bool) → p.core.dtls.active ≡ Some k → k ≡ role

module _ {N : Type 0} (draws : Draws N) (stun : List ℕ → Bool) (start : PlainPair N) where
  -- nor had it another one before
  pub role_before : (c : Bool) (entry : Entry PlainMediaEvent) (past : List (Entry PlainMediaEvent)) (pair : PlainPair N)
      (ran : Reached (plain_over draws) stun start (entry ∷ past) pair) (at : Side) → HasAtMost c (rtc_at at pair) → HasAtMost c (rtc_at at ran.0)
  role_before c entry past pair ran at h = λ k is.
      h k
      ((enters_role (plain_over draws) (plain_over_laws draws) stun ran.0 entry pair ran.2 at).stays (ap (λ (o : Option Bool). is_some o) is) ∙ is)

  module _ (new : IsNewPair draws start) where
    first_role : (at : Side) → HasRole (plain_over draws) (plain_over_laws draws) (rtc_at at start)
    first_role Left = λ started. absurd (true≢false (sym started ∙ new_unstarted draws start.left new.left))
    first_role Right = λ started. absurd (true≢false (sym started ∙ new_unstarted draws start.right new.right))

    -- by its role a side that is not closed has the side of its association
    pub lives_by : (c : Bool) (past : List (Entry PlainMediaEvent)) (pair : PlainPair N) → are_native (steps_of past) ≡ true
        → Reached (plain_over draws) stun start past pair → (at : Side) → ((rtc_at at pair).core.phase ≡ Closed → ⊥) → HasAtMost c (rtc_at at pair)
        → LivesOnSide (plain_over draws) (plain_over_laws draws) c (rtc_at at pair)
    lives_by c past pair go ran at lives h = record {
      lives = lives;
      side = λ started.
          h (rtc_at at pair).core.sctp.client
          (run_role (plain_over draws) (plain_over_laws draws) stun start past pair go ran (new_unused draws start new) first_role at lives started);
    }

-- two peers have these roles, which are not the same, or none
pub record Roles {N : Type 0} (p q : PlainPolled N) : Type 0 where
  pub own : Bool
  pub other : Bool
  pub own_is : HasAtMost own p
  pub other_is : HasAtMost other q
  pub apart : own ≡ other → ⊥

roles_by : {N : Type 0} (p q : PlainPolled N) (a b : Option Bool) → p.core.dtls.active ≡ a → q.core.dtls.active ≡ b
    → ((c : Bool) → p.core.dtls.active ≡ Some c → q.core.dtls.active ≡ Some c → ⊥) → Roles p q
roles_by p q (Some c) (Some d) e f differ = record {
  own = c;
  other = d;
  own_is = λ k is. some_is k c (sym is ∙ e);
  other_is = λ k is. some_is k d (sym is ∙ f);
  apart = λ same. differ d (e ∙ ap (λ (x : Bool). Some x) same) f;
}
roles_by p q (Some c) None e f differ = record {
  own = c;
  other = not c;
  own_is = λ k is. some_is k c (sym is ∙ e);
  other_is = λ k is. absurd (none_some k (sym f ∙ is));
  apart = not_self c;
}
roles_by p q None (Some d) e f differ = record {
  own = not d;
  other = d;
  own_is = λ k is. absurd (none_some k (sym e ∙ is));
  other_is = λ k is. some_is k d (sym is ∙ f);
  apart = λ same. not_self d (sym same);
}
roles_by p q None None e f differ = record {
  own = true;
  other = false;
  own_is = λ k is. absurd (none_some k (sym e ∙ is));
  other_is = λ k is. absurd (none_some k (sym f ∙ is));
  apart = true≢false;
}

-- one handshake is finished, so the other part has not the same role
parts_differ : {N : Type 0} (a b : PeerActs) (p q : PlainPolled N) (c : Bool) → DtlsMoved plain_dtls fresh_dtls a.dtls p.core.dtls.instance
    → DtlsMoved plain_dtls fresh_dtls b.dtls q.core.dtls.instance → ShookHands a p b → q.core.dtls.active ≡ roles_after None (dtls_roles b.dtls)
    → phase_is_finished p.core.dtls.instance.phase ≡ true → p.core.dtls.active ≡ Some c → q.core.dtls.active ≡ Some c → ⊥
parts_differ a b p q c here there hands role finished own other =
    roles_differ a.dtls b.dtls p.core.dtls.instance q.core.dtls.instance here there hands.crosses finished
    (moved_role (dtls_given b.dtls) b.dtls fresh_dtls q.core.dtls.instance there (λ x m. m)
    ∙ sym role ∙ other ∙ sym own ∙ hands.role
    ∙ sym (moved_role (dtls_given a.dtls) a.dtls fresh_dtls p.core.dtls.instance here (λ x m. m)))

pub pair_roles : {N : Type 0} (pair : PlainPair N) → HasExchanged pair → (at : Side) → phase_is_finished (rtc_at at pair).core.dtls.instance.phase ≡ true
    → Roles (rtc_at at pair) (rtc_at (other_side at) pair)
pair_roles pair x Left finished =
    roles_by pair.left pair.right pair.left.core.dtls.active pair.right.core.dtls.active refl refl
    (λ c own other.
    parts_differ x.acts.left x.acts.right pair.left pair.right c x.exchange.joined.left_dtls x.exchange.joined.right_dtls x.hands.left x.hands.right.role
    finished own other)
pair_roles pair x Right finished =
    roles_by pair.right pair.left pair.right.core.dtls.active pair.left.core.dtls.active refl refl
    (λ c own other.
    parts_differ x.acts.right x.acts.left pair.right pair.left c x.exchange.joined.right_dtls x.exchange.joined.left_dtls x.hands.right x.hands.left.role
    finished own other)

-- the handshake of a side that announced a channel in-band is finished
pub use_finished : {N : Type 0} (draws : Draws N) (acts : PeerActs) (uses : List ChannelUse) (p : PlainPolled N) (side : SideStood draws acts uses p) (s g : ℕ)
    → HasUseOver s (Some g) uses → phase_is_finished p.core.dtls.instance.phase ≡ true
use_finished draws acts uses p side s g h =
    read_finished draws acts uses p side
    (λ none.
    true≢false (sym (use_read draws s g acts uses p side h) ∙ ap (λ (l : List StreamMessage). any_dcep (messages_of s g l)) none))
