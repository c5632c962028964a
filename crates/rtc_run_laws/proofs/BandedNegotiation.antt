-- Negotiation by peers of which no channel was settled for one stream by other means than messages: where the ops add none that is, it stays so, and entries
-- of streams stay.
use Rattle.std.proofs.Common.{◌≡◌, ◌∙◌, ◌∷◌, Bool, true, false, ℕ, List, [], Result, Ok, Err, alloc_error, refl, sym, subst}
use Rattle.std.specs.declared.alloc.AllocError.{AllocError}
use Rattle.rtc_sdp_values.specs.declared.direction.Direction.{Direction}
use Rattle.rtc_sdp_values.specs.declared.direction.Direction.TheVariants.{Inactive}
use Rattle.rtc_peer_rows.specs.RowChanges.{RowChange, directed_row, stopped_row}
use Rattle.rtc_channels.specs.Channels.{Channels}
use Rattle.rtc_change.specs.declared.change.Change.{Change}
use Rattle.rtc_peer_core.specs.declared.peer.Peer.{Peer}
use Rattle.rtc_peer_core.specs.declared.phase.Phase.TheVariants.{Closed}
use Rattle.rtc_peer_core.specs.Calls.{ChangesLine, LacksOffer, after_channels_alone, fitting_channels}
use Rattle.rtc_peer_core.specs.Meanings.{Meanings}
use Rattle.rtc_peer_core.specs.SdpHalves.{draws_half}
use Rattle.rtc_peer_core.specs.Stance.{stance_of}
use Rattle.rtc_peer_laws.specs.ChannelStreams.{AreNumberedChannels}
use Rattle.rtc_peer_laws.proofs.ConfirmedChannels.{all_confirmed_numbers, made_numbers}
use Rattle.rtc_run_history.specs.declared.side.Side.{Side}
use Rattle.rtc_run_history.specs.declared.op.Op.{Op}
use Rattle.rtc_run_history.specs.declared.op.Op.TheVariants.{AddMedia, SetDirection, StopMedia, AddChannel, IceRestart}
use Rattle.rtc_run_history.specs.declared.op_answer.OpAnswer.{OpAnswer}
use Rattle.rtc_run_history.specs.declared.op_answer.OpAnswer.TheVariants.{Mid, Changed, NoLine, Channel, Creds}
use Rattle.rtc_run_history.specs.declared.op_answer.OpAnswer.TheVariants.{BadChannel as NoChannel, Alloc as OpAlloc}
use Rattle.rtc_run_history.specs.declared.made.Made.{Made}
use Rattle.rtc_run_history.specs.declared.made.Made.TheVariants.{NotAsked, Nothing, Offer, Alloc as MadeAlloc}
use Rattle.rtc_run_history.specs.declared.kept.Kept.{Kept}
use Rattle.rtc_run_history.specs.Performs.{PerformsOps, MakesOf}
use Rattle.rtc_run_laws.proofs.StreamSteps.{AreInBandOpsOf}
use Rattle.rtc_run_laws.proofs.BandedRows.{AreBandedRows, confirmed_banded, made_banded}
use Rattle.rtc_run_laws.proofs.NumberedTokens.{AreChangesWith, fitting_with}
use Rattle.rtc_run_laws.proofs.OwnNegotiation.{IsAdded}
use Rattle.rtc_run_laws.proofs.OwnNegotiation.{ops_go as ops_added}

module _ (the : ℕ) {I D S M E X T W N : Type 0} (m : Meanings I D S M E X T W N) (c : Bool) where
  -- no channel was settled for the stream by other means, and their numbers rise
  abbrev AreBoth : Channels → Type 0
  AreBoth held = AreBandedRows the held.rows × AreNumberedChannels held

  -- Entries stay, a closed peer does so, and no channel was settled for the stream by other means, if none was before.
  pub record GoesBanded (Added : Type 0) (p q : Peer I D S M N) : Type 0 where
    pub entries : q.sctp.entries ≡ p.sctp.entries
    pub closed : p.phase ≡ Closed → q.phase ≡ Closed
    pub rows : Added → AreBoth p.channels → AreBoth q.channels

  goes_on : (p b q : Peer I D S M N) → GoesBanded (Unit {0}) p b → GoesBanded (Unit {0}) b q → GoesBanded (Unit {0}) p q
  goes_on p b q h k = record {
    entries = k.entries ∙ h.entries;
    closed = λ e. k.closed (h.closed e);
    rows = λ added x. k.rows added (h.rows added x);
  }

  goes_as : (Added : Type 0) (p n q : Peer I D S M N) → q ≡ n → GoesBanded Added p n → GoesBanded Added p q
  goes_as Added p n q is h = subst (λ (x : Peer I D S M N). GoesBanded Added p x) (sym is) h

  -- channels stay
  goes_same : (Added : Type 0) (p n q : Peer I D S M N) → q ≡ n → n.sctp.entries ≡ p.sctp.entries → n.channels ≡ p.channels → n.phase ≡ p.phase
      → GoesBanded Added p q
  goes_same Added p n q is entries channels phase = goes_as Added p n q is (record {
    entries = entries;
    closed = λ e. phase ∙ e;
    rows = λ added x. subst (λ (held : Channels). AreBoth held) (sym channels) x;
  })

  -- ---- ops

  line_goes : (change : RowChange) (to : Direction) (p : Peer I D S M N) (mid : List ℕ) (r : Result Bool AllocError) (q : Peer I D S M N)
      → ChangesLine change to p mid r q → GoesBanded (Unit {0}) p q
  line_goes change to p mid (Ok true) q h = goes_same (Unit {0}) p _ q h.1 refl refl refl
  line_goes change to p mid (Ok false) q h = goes_same (Unit {0}) p p q h.1 refl refl refl
  line_goes change to p mid (Err error) q h = goes_same (Unit {0}) p p q h refl refl refl

  ops_go : (p : Peer I D S M N) (ops : List Op) (answers : List OpAnswer) (q : Peer I D S M N) → AreInBandOpsOf the ops → PerformsOps m p ops answers q
      → GoesBanded (Unit {0}) p q
  ops_go p [] [] q band h = goes_same (Unit {0}) p p q h refl refl refl
  ops_go p (AddMedia kind dir ∷ ops) (Mid mid ∷ answers) q band h =
      goes_on p h.0 q (goes_same (Unit {0}) p _ h.0 h.1.1 refl refl refl) (ops_go h.0 ops answers q band h.2)
  ops_go p (AddMedia kind dir ∷ ops) (OpAlloc ∷ []) q band h = goes_same (Unit {0}) p _ q h.1 refl refl refl
  ops_go p (SetDirection place dir ∷ ops) (NoLine ∷ answers) q band h = ops_go p ops answers q band h.1
  ops_go p (SetDirection place dir ∷ ops) (Changed changed ∷ answers) q band h =
      goes_on p h.0 q (line_goes (directed_row dir) dir p h.1.mid (Ok changed) h.0 h.1.called) (ops_go h.0 ops answers q band h.2)
  ops_go p (SetDirection place dir ∷ ops) (OpAlloc ∷ []) q band h = line_goes (directed_row dir) dir p h.mid (Err alloc_error) q h.called
  ops_go p (StopMedia place ∷ ops) (NoLine ∷ answers) q band h = ops_go p ops answers q band h.1
  ops_go p (StopMedia place ∷ ops) (Changed changed ∷ answers) q band h =
      goes_on p h.0 q (line_goes stopped_row Inactive p h.1.mid (Ok changed) h.0 h.1.called) (ops_go h.0 ops answers q band h.2)
  ops_go p (StopMedia place ∷ ops) (OpAlloc ∷ []) q band h = line_goes stopped_row Inactive p h.mid (Err alloc_error) q h.called
  ops_go p (AddChannel config ∷ ops) (Channel id ∷ answers) q band h =
      goes_on p h.0 q
      (goes_as (Unit {0}) p _ h.0 h.1.2
      (record {
        entries = refl;
        closed = λ e. e;
        rows = λ added x. (made_banded the p.channels config band.0 x.0, made_numbers p.channels config x.1);
      }))
      (ops_go h.0 ops answers q band.1 h.2)
  ops_go p (AddChannel config ∷ ops) (NoChannel ∷ answers) q band h =
      goes_on p h.0 q (goes_same (Unit {0}) p p h.0 h.1.1 refl refl refl) (ops_go h.0 ops answers q band.1 h.2)
  ops_go p (AddChannel config ∷ ops) (OpAlloc ∷ []) q band h = goes_same (Unit {0}) p _ q h.1 refl refl refl
  ops_go p (IceRestart keep ∷ ops) (Creds creds ∷ answers) q band h =
      goes_on p h.0 q (goes_same (Unit {0}) p _ h.0 h.1.1 refl refl refl) (ops_go h.0 ops answers q band h.2)
  ops_go p (IceRestart keep ∷ ops) (OpAlloc ∷ []) q band h = goes_same (Unit {0}) p _ q h.1 refl refl refl
  ops_go p ops answers q band h = absurd h

  -- ---- what is staged is applied

  abbrev AreAdded : Peer I D S M N → List Change → Type 0
  AreAdded p changes = AreChangesWith (IsAdded m c p) changes

  alone_goes : (changes : List Change) (p q : Peer I D S M N) → q ≡ after_channels_alone changes p → GoesBanded (AreAdded p changes) p q
  alone_goes [] p q h = goes_same (AreAdded p []) p p q h refl refl refl
  alone_goes (change ∷ changes) p q h = goes_as (AreAdded p (change ∷ changes)) p _ q h (record {
    entries = refl;
    closed = λ e. e;
    rows = λ added x. (
      confirmed_banded the c (fitting_channels (change ∷ changes)) p.channels (fitting_with (IsAdded m c p) (change ∷ changes) added) x.0,
      all_confirmed_numbers (fitting_channels (change ∷ changes)) p.channels x.1,
    );
  })

  lacking_goes : (Added : Type 0) (draws : Bool) (p q : Peer I D S M N) → LacksOffer m draws p q → GoesBanded Added p q
  lacking_goes Added true p q h = goes_same Added p _ q h.1 refl refl refl
  lacking_goes Added false p q h = goes_same Added p p q h refl refl refl

  makes_go : (asked : Bool) (at : Side) (p : Peer I D S M N) (sdps : List Kept) (made : Made) (q : Peer I D S M N) (sdps' : List Kept)
      → MakesOf m asked at p sdps made q sdps' → GoesBanded (AreAdded p p.staged) p q
  makes_go false at p sdps NotAsked q sdps' h = goes_same (AreAdded p p.staged) p p q h.0 refl refl refl
  makes_go true at p sdps Nothing q sdps' h = alone_goes p.staged p q h.0.1
  makes_go true at p sdps (Offer k) q sdps' h = goes_same (AreAdded p p.staged) p _ q h.1.4 refl refl refl
  makes_go true at p sdps MadeAlloc q sdps' h = lacking_goes (AreAdded p p.staged) (draws_half (stance_of m p)) p q h.0
  makes_go asked at p sdps made q sdps' h = absurd h

  -- ops, and what becomes of what they staged
  pub ops_made : (asked : Bool) (at : Side) (ops : List Op) (answers : List OpAnswer) (p b : Peer I D S M N) (sdps : List Kept) (made : Made)
      (q : Peer I D S M N) (sdps' : List Kept) → AreInBandOpsOf the ops → p.staged ≡ [] → PerformsOps m p ops answers b
      → MakesOf m asked at b sdps made q sdps' → GoesBanded (Unit {0}) p q
  ops_made asked at ops answers p b sdps made q sdps' band none h k =
      let first = ops_go p ops answers b band h in
      let after = makes_go asked at b sdps made q sdps' k in
      record {
        entries = after.entries ∙ first.entries;
        closed = λ e. after.closed (first.closed e);
        rows = λ added x.
            after.rows
            ((ops_added m c p ops answers b h).staged x.1.1 (subst (λ (l : List Change). AreAdded p l) (sym none) tt))
            (first.rows added x);
      }
