-- Runs leave the exchange of a pair, and what one side reads of it the other side wrote.
use Rattle.std.proofs.Common.{◌≡◌, ◌++◌, ◌∷◌, ℕ, Bool, true, false, List, [], sym, subst}
use Rattle.rtc_parts.specs.AssociationWords.{ended, written, read}
use Rattle.rtc_assoc.specs.Unread.{IsPrefix, unread}
use Rattle.rtc_assoc.proofs.DirectedLemmas.{directed_all}
use Rattle.rtc_assoc.proofs.RunLemmas.{both_run}
use Rattle.rtc_assoc_state.specs.Outbox.{has_unacknowledged}
use Rattle.rtc_plain_media.specs.declared.plain_media_event.PlainMediaEvent.{PlainMediaEvent}
use Rattle.rtc_parts.specs.Draws.{Draws}
use Rattle.rtc_peer_laws.specs.Exchanging.{parts_past}
use Rattle.rtc_peer_laws.specs.JoinedPeers.{ends_of, packet_parts}
use Rattle.rtc_peer_laws.proofs.ExchangeLemmas.{left_reads, right_reads}
use Rattle.rtc_run_history.specs.declared.side.Side.{Side}
use Rattle.rtc_run_history.specs.declared.side.Side.TheVariants.{Left, Right}
use Rattle.rtc_run_history.specs.PairState.{rtc_at}
use Rattle.rtc_run_history.specs.Native.{are_native}
use Rattle.rtc_run_history.specs.Past.{Entry, steps_of}
use Rattle.rtc_run_history.specs.Runs.{EntersSoundly, Reached, Went}
use Rattle.rtc_run_history.specs.Sides.{other_side}
use Rattle.rtc_run_laws.specs.PlainPairs.{HasExchanged, PairActs, PairExchanges, PlainPair, acts_at, plain_over}
use Rattle.rtc_run_laws.specs.SentContents.{contents_sent}
use Rattle.rtc_run_laws.proofs.NativeSteps.{native_entry}
use Rattle.rtc_run_laws.proofs.StepsExchange.{step_exchanges}

module _ {N : Type 0} (draws : Draws N) (stun : List ℕ → Bool) (start : PlainPair N) where
  pub reached_exchanged : (past : List (Entry PlainMediaEvent)) (pair : PlainPair N) → are_native (steps_of past) ≡ true
      → Reached (plain_over draws) stun start past pair → HasExchanged start → HasExchanged pair
  reached_exchanged [] pair native ran exchanged = subst (λ (x : PlainPair N). HasExchanged x) (sym ran) exchanged
  reached_exchanged (entry ∷ past) pair native ran exchanged =
      let last = native_entry entry past native in
      step_exchanges draws stun ran.0 entry.step entry.outcome entry.table pair last.1 ran.2.performs (reached_exchanged past ran.0 last.0 ran.1 exchanged)

  -- sound entries are entries
  pub went_reached : (past : List (Entry PlainMediaEvent)) (pair : PlainPair N)
      → Went (EntersSoundly (plain_over draws) stun start) (λ fresh. fresh ≡ start) past pair → Reached (plain_over draws) stun start past pair
  went_reached [] pair ran = ran
  went_reached (entry ∷ past) pair ran = (ran.0, went_reached past ran.0 ran.1, ran.2.0)

pub side_reads : {N : Type 0} (acts : PairActs) (pair : PlainPair N) (at : Side) (s g : ℕ) → PairExchanges acts pair
    → IsPrefix (read s g (acts_at (other_side at) acts).association) (written s g (acts_at at acts).association)
side_reads acts pair Left s g x =
    right_reads acts.left acts.right (contents_sent Left pair.packets) (contents_sent Right pair.packets) pair.left pair.right s g x
side_reads acts pair Right s g x =
    left_reads acts.left acts.right (contents_sent Left pair.packets) (contents_sent Right pair.packets) pair.left pair.right s g x

pub side_all : {N : Type 0} (acts : PairActs) (pair : PlainPair N) (at : Side) (s g : ℕ) → PairExchanges acts pair
    → ended s g (acts_at at acts).association ≡ false → ended s g (acts_at (other_side at) acts).association ≡ false
    → has_unacknowledged s (rtc_at at pair).core.sctp.association.outbox.items ≡ false
    → read s g (acts_at (other_side at) acts).association ++ unread s g (rtc_at (other_side at) pair).core.sctp.association.inbox.unread
    ≡ written s g (acts_at at acts).association
side_all acts pair Left s g x here there none =
    let h = both_run x.joined.moves (ends_of (parts_past acts.left) (packet_parts pair.left) (parts_past acts.right) (packet_parts pair.right)) x.joined.run in
    directed_all h.there pair.left.core.sctp.association pair.right.core.sctp.association acts.left.association acts.right.association s g h.forth_is here
    there none
side_all acts pair Right s g x here there none =
    let h = both_run x.joined.moves (ends_of (parts_past acts.left) (packet_parts pair.left) (parts_past acts.right) (packet_parts pair.right)) x.joined.run in
    directed_all h.back pair.right.core.sctp.association pair.left.core.sctp.association acts.right.association acts.left.association s g h.back_is here
    there none
