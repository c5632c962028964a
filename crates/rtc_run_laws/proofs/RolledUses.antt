-- What a rollback leaves of the channels that were announced: those that it removes, and the others.
use Rattle.std.proofs.Common.{◌≡◌, ◌∙◌, ◌⊎◌, ◌++◌, ◌<◌, ◌≤◌, ◌==◌, ◌||◌, ◌&&◌, not, if◌then◌else◌, ℕ, Bool, true, false, true≢false, List, [], ◌∷◌, append-nil, Some, None, inl, inr, refl, sym, ap, arith}
use Rattle.std.proofs.lemmas.Bool.{eqb-true, eqb-false, ne_eqb}
use Rattle.rtc_parts.specs.AssociationLaws.{AssociationLaws}
use Rattle.rtc_sctp_laws.specs.StreamMessages.{StreamMessage}
use Rattle.rtc_sctp_laws.specs.GenerationLaws.{GenerationLaws}
use Rattle.rtc_sctp_laws.specs.StreamUses.{messages_of}
use Rattle.rtc_assoc.specs.Unread.{IsPrefix}
use Rattle.rtc_sctp_laws.specs.Contents.{contents_of}
use Rattle.rtc_sctp_laws.proofs.PastLemmas.{acts_past}
use Rattle.rtc_channels.specs.Channels.{AreBelow, Channel, Channels, has_channel, is_of_stream}
use Rattle.rtc_peer_core.specs.Meanings.{Meanings}
use Rattle.rtc_peer_transport.specs.declared.polled_peer.PolledPeer.{PolledPeer}
use Rattle.rtc_peer_laws.specs.Acts.{PeerDid}
use Rattle.rtc_peer_laws.specs.ChannelStreams.{AreNumberedChannels, HasNoRow, IsGone, IsLiveChannel}
use Rattle.rtc_peer_laws.specs.PeerActs.{Came}
use Rattle.rtc_peer_laws.specs.KeptChannels.{CallLeavesStreams}
use Rattle.rtc_peer_laws.proofs.ChannelsOver.{over_rows}
use Rattle.rtc_run_laws.specs.ChannelUses.{ChannelUse, loses_channel, with_rolled_back}
use Rattle.rtc_run_laws.proofs.UseLists.{first_more, prefix_same}
use Rattle.rtc_run_laws.proofs.UsesTold.{HasGone, InBandTold, IsOver, Lives, StandsSo, UseStands, UseTold, more_read, nothing_more, opened_on, told_on, undone_on, use_opened}

-- ---- rows

none_some : (c : ℕ) → None ≡ Some c → ⊥
none_some c h = cc

some_is : (a b : ℕ) → Some a ≡ Some b → a ≡ b
some_is a b h = cc

either_first : (a b : Bool) → a ≡ true → (a || b) ≡ true
either_first true b h = refl
either_first false b h = absurd (true≢false (sym h))

either_last : (a b : Bool) → b ≡ true → (a || b) ≡ true
either_last true b h = refl
either_last false b h = h

both_parts : (a b : Bool) → (a && b) ≡ true → (a ≡ true) × (b ≡ true)
both_parts true b h = (refl, h)
both_parts false b h = absurd (true≢false (sym h))

not_true : (b : Bool) → not b ≡ true → b ≡ false
not_true true h = absurd (true≢false (sym h))
not_true false h = refl

pub none_has : (c : ℕ) (rows : List Channel) → HasNoRow c rows → has_channel c rows ≡ false
none_has c [] h = refl
none_has c (row ∷ rows) h = by (row.id == c) (ne_eqb row.id c h.0) (none_has c rows h.1)
  where
    by : (b : Bool) → b ≡ false → has_channel c rows ≡ false → (b || has_channel c rows) ≡ false
    by true e k = absurd (true≢false e)
    by false e k = k

has_none : (c : ℕ) (rows : List Channel) → has_channel c rows ≡ false → HasNoRow c rows
has_none c [] h = tt
has_none c (row ∷ rows) h = by (row.id == c) refl h (λ k. has_none c rows k)
  where
    by : (b : Bool) → (row.id == c) ≡ b → (b || has_channel c rows) ≡ false → (has_channel c rows ≡ false → HasNoRow c rows)
        → (row.id ≡ c → ⊥) × HasNoRow c rows
    by true e k rest = absurd (true≢false k)
    by false e k rest = (eqb-false row.id c e, rest k)

has_below : (bound c : ℕ) (rows : List Channel) → AreBelow bound rows → has_channel c rows ≡ true → c < bound
has_below bound c [] below h = absurd (true≢false (sym h))
has_below bound c (row ∷ rows) below h = by (row.id == c) refl h (λ k. has_below bound c rows below.1 k)
  where
    by : (b : Bool) → (row.id == c) ≡ b → (b || has_channel c rows) ≡ true → (has_channel c rows ≡ true → c < bound) → c < bound
    by true e k rest = let same = eqb-true row.id c e in let own = below.0 in omega (arith, same, own)
    by false e k rest = rest k

over_has : (s c : ℕ) (rows : List Channel) → over_rows s rows ≡ Some c → has_channel c rows ≡ true
over_has s c [] h = absurd (none_some c h)
over_has s c (row ∷ rows) h = by (is_of_stream s row.stream) h (λ k. over_has s c rows k)
  where
    by : (b : Bool) → (if b then Some row.id else over_rows s rows) ≡ Some c → (over_rows s rows ≡ Some c → has_channel c rows ≡ true)
        → ((row.id == c) || has_channel c rows) ≡ true
    by true e rest = let same = some_is row.id c e in either_first (row.id == c) (has_channel c rows) (grind (arith, same))
    by false e rest = either_last (row.id == c) (has_channel c rows) (rest e)

-- a channel that a rollback removes has gone
pub lost_gone : (c : ℕ) (held held' : Channels) → AreBelow held.given held.rows → held.given ≤ held'.given
    → loses_channel c held.rows held'.rows ≡ true → IsGone c held'
lost_gone c held held' below rises lost =
    let two = both_parts (has_channel c held.rows) (not (has_channel c held'.rows)) lost in
    let low = has_below held.given c held.rows below two.0 in
    (omega (arith, low, rises), has_none c held'.rows (not_true (has_channel c held'.rows) two.1))

-- one that has a stream and goes is removed
pub gone_lost : (s c : ℕ) (held held' : Channels) → over_rows s held.rows ≡ Some c → IsGone c held' → loses_channel c held.rows held'.rows ≡ true
gone_lost s c held held' over gone =
    by (has_channel c held.rows) (over_has s c held.rows over) (has_channel c held'.rows) (none_has c held'.rows gone.1)
  where
    by : (a : Bool) → a ≡ true → (b : Bool) → b ≡ false → (a && not b) ≡ true
    by true e false f = refl
    by true e true f = absurd (true≢false f)
    by false e b f = absurd (true≢false (sym e))

same_lost : (b : Bool) → (b && not b) ≡ false
same_lost true = refl
same_lost false = refl

-- where the rows stay none is
pub none_rolled : (rows rows' : List Channel) (uses : List ChannelUse) → rows' ≡ rows → with_rolled_back rows rows' uses ≡ uses
none_rolled rows rows' uses is = ap (λ (l : List Channel). with_rolled_back rows l uses) is ∙ same uses
  where
    same : (l : List ChannelUse) → with_rolled_back rows rows l ≡ l
    same [] = refl
    same (x ∷ l) = by (has_channel x.channel rows && not (has_channel x.channel rows)) (same_lost (has_channel x.channel rows)) (same l)
      where
        by : (b : Bool) → b ≡ false → with_rolled_back rows rows l ≡ l
            → (if b then record x { rolled_back = true } else x) ∷ with_rolled_back rows rows l ≡ x ∷ l
        by true e rest = absurd (true≢false e)
        by false e rest = ap (λ (k : List ChannelUse). x ∷ k) rest

-- ---- uses

module _ {I D S M E X T W N : Type 0} (m : Meanings I D S M E X T W N) where
  -- what was sent over it is the first that was written to its generation
  pub use_first : (written read : List StreamMessage) (p : PolledPeer I D S M N) (x : ChannelUse) → UseStands m written read p x → (s : ℕ)
      → x.stream ≡ Some s → IsPrefix x.sent (contents_of (messages_of s x.generation written))
  use_first written read p x h s of = by x.rolled_back refl
    where
      some_is : (n k : ℕ) → Some n ≡ Some k → n ≡ k
      some_is n k e = cc

      told : UseTold m written read p x.channel x.stream x.generation x.sent x.got → IsPrefix x.sent (contents_of (messages_of s x.generation written))
      told t =
          prefix_same x.sent (contents_of (messages_of s x.generation written))
          (sym t.sent_is ∙ ap (λ (n : ℕ). contents_of (messages_of n x.generation written)) (some_is t.stream s (sym t.stream_is ∙ of)))

      by : (b : Bool) → x.rolled_back ≡ b → IsPrefix x.sent (contents_of (messages_of s x.generation written))
      by true e = (h.undone e).first s of
      by false e = told (h.kept e)

module _ {I D S M E X T W N : Type 0} (m : Meanings I D S M E X T W N) (w : AssociationLaws m.association) (v : GenerationLaws m.association)
    (p q : PolledPeer I D S M N) (came : Came) (moments : List ℕ) (shown : List (List ℕ)) (did : PeerDid m came moments shown [] [] p q)
    (leaves : CallLeavesStreams m p [] q) (numbers : AreNumberedChannels p.core.channels) (written read : List StreamMessage) (x : ChannelUse)
    (h : InBandTold m written read p x) where
  pub removed_told : loses_channel x.channel p.core.channels.rows q.core.channels.rows ≡ true
      → InBandTold m (written ++ []) (read ++ []) q (record x { rolled_back = true })
  removed_told lost = λ band. record {
    kept = λ e. absurd (true≢false e);
    undone = λ e. record {
      opened = opened_on m written [] read [] x.stream x.generation x.got (use_opened m written read p x (h band));
      first = λ s is. first_more s x.generation x.sent written [] (use_first m written read p x (h band) s is);
      gone = lost_gone x.channel p.core.channels q.core.channels numbers.1 leaves.given lost;
    };
  }

  pub left_told : loses_channel x.channel p.core.channels.rows q.core.channels.rows ≡ false → InBandTold m (written ++ []) (read ++ []) q x
  left_told left = λ band. record {
    kept = λ e.
        let t = (h band).kept e in
        told_on m written [] read [] p q x.channel x.stream x.generation x.sent x.sent x.got x.got t
        (nothing_more m x.sent (messages_of t.stream x.generation []) refl) (stands t.stream t.rest t.stands);
    undone = λ e. undone_on m written [] read [] p q x.channel x.stream x.generation x.sent x.got (leaves.gone x.channel) ((h band).undone e);
  }
    where
      live : (s : ℕ) (rest : List StreamMessage) → IsLiveChannel x.channel s x.generation p → x.got ≡ contents_of rest
          → IsLiveChannel x.channel s x.generation q ⊎ IsGone x.channel q.core.channels → StandsSo m x.channel s x.generation x.got (rest ++ []) q
      live s rest before is (inl after) = Lives after (is ∙ ap contents_of (sym (append-nil rest)))
      live s rest before is (inr gone) =
          absurd (true≢false (sym (gone_lost s x.channel p.core.channels q.core.channels before.0 gone) ∙ left))

      stands : (s : ℕ) (rest : List StreamMessage) → StandsSo m x.channel s x.generation x.got rest p
          → StandsSo m x.channel s x.generation x.got (rest ++ []) q
      stands s rest (Lives before is) = live s rest before is (leaves.lives x.channel s x.generation numbers before)
      stands s rest (HasGone gone past k) =
          HasGone (leaves.gone x.channel gone)
          (acts_past m.association w v s x.generation did.acts.association p.core.sctp.association q.core.sctp.association did.went.association past).past
          (more_read m x.got rest [] k)
      stands s rest (IsOver closed k) = IsOver (leaves.closed closed) (more_read m x.got rest [] k)
