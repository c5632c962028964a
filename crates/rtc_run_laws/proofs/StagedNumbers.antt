-- The channels that ops stage: they have the numbers that are answered, and none of them is confirmed.
use Rattle.std.proofs.Common.{◌≡◌, ℕ, Bool, true, false, List, [], ◌∷◌, ◌++◌, Ok, refl, sym, ◌∙◌, ap, subst, arith, append-nil, append_assoc}
use Rattle.std.specs.List.{AllByRecursion}
use Rattle.std.proofs.lemmas.Bool.{eqb-true}
use Rattle.std.proofs.lemmas.List.{map-append}
use Rattle.rtc_wire.specs.declared.channel_config.ChannelConfig.{ChannelConfig}
use Rattle.rtc_sdp_values.specs.declared.direction.Direction.{Direction}
use Rattle.rtc_sdp_values.specs.declared.direction.Direction.TheVariants.{Inactive}
use Rattle.rtc_sdp_values.specs.declared.ice_creds.IceCreds.{IceCreds}
use Rattle.rtc_channels.specs.Channels.{AreBelow, Channel, Channels, unconfirmed, with_channel}
use Rattle.rtc_change.specs.declared.change.Change.{Change}
use Rattle.rtc_change.specs.declared.change.Change.TheVariants.{AddMedia as Adding, AddApp, AddChannel as AddingChannel, Direction as Setting, IceRestart as Restarting}
use Rattle.rtc_change.specs.PendingOffer.{new_channels}
use Rattle.rtc_change.proofs.AddedLemmas.{new_channels-append}
use Rattle.rtc_peer_rows.specs.RowChanges.{RowChange, directed_row, stopped_row}
use Rattle.rtc_peer_core.specs.Staging.{with_restart}
use Rattle.rtc_peer_core.specs.Stance.{Stance}
use Rattle.rtc_peer_core.proofs.StanceCalls.{IsAppFor, StanceChangesLine}
use Rattle.rtc_peer_polling.specs.Numbers.{AreUnconfirmed}
use Rattle.rtc_peer_polling.proofs.NumberedChannels.{unconfirmed_more}
use Rattle.rtc_run_history.specs.declared.op.Op.{Op}
use Rattle.rtc_run_history.specs.declared.op.Op.TheVariants.{AddMedia, SetDirection, StopMedia, AddChannel, IceRestart}
use Rattle.rtc_run_history.specs.declared.op_answer.OpAnswer.{OpAnswer}
use Rattle.rtc_run_history.specs.declared.op_answer.OpAnswer.TheVariants.{Mid, Changed, NoLine, Channel as Numbered, BadChannel as NoChannel, Creds, Alloc as OpAlloc}
use Rattle.rtc_run_history.specs.Answers.{numbers_answered}
use Rattle.rtc_run_laws.proofs.CancelledRows.{numbers_of}
use Rattle.rtc_run_laws.proofs.NumberedChannels.{channel_numbered}
use Rattle.rtc_run_laws.proofs.StanceSteps.{StancePerformsOps}

-- the numbers of the channels that changes add
abbrev pub staged_numbers : List Change → List ℕ
staged_numbers changes = numbers_of (new_channels changes)

numbers-append : (staged more : List Change) → staged_numbers (staged ++ more) ≡ staged_numbers staged ++ staged_numbers more
numbers-append staged more =
    ap (λ (l : List (ℕ × ChannelConfig)). numbers_of l) (new_channels-append staged more)
    ∙ map-append (λ (channel : ℕ × ChannelConfig). channel.0) (new_channels staged) (new_channels more)

-- a restart adds none
numbers-restart : (creds : IceCreds) (keeps : Bool) (staged : List Change) → staged_numbers (with_restart creds keeps staged) ≡ staged_numbers staged
numbers-restart creds keeps [] = refl
numbers-restart creds keeps (Adding media ∷ staged) = numbers-restart creds keeps staged
numbers-restart creds keeps (AddApp mid ∷ staged) = numbers-restart creds keeps staged
numbers-restart creds keeps (AddingChannel id config ∷ staged) = ap (λ (l : List ℕ). id ∷ l) (numbers-restart creds keeps staged)
numbers-restart creds keeps (Setting mid dir ∷ staged) = numbers-restart creds keeps staged
numbers-restart creds keeps (Restarting other kept ∷ staged) = numbers-restart creds keeps staged

-- What ops leave of channels.
pub record KeepsUnconfirmed (p : Stance) (answers : List OpAnswer) (q : Stance) : Type 0 where
  pub numbers : staged_numbers q.staged ≡ staged_numbers p.staged ++ numbers_answered answers
  -- channels that were not confirmed are not, and none of those is that were added
  pub stay : (id : ℕ) → AreUnconfirmed id p.channels.rows → AreUnconfirmed id q.channels.rows
  pub fresh : AreBelow p.channels.given p.channels.rows → AllByRecursion (λ id. AreUnconfirmed id q.channels.rows) (numbers_answered answers)

-- nothing is added
adds_none : (p r q : Stance) (answers : List OpAnswer) → staged_numbers r.staged ≡ staged_numbers p.staged → r.channels ≡ p.channels → KeepsUnconfirmed r answers q
    → KeepsUnconfirmed p answers q
adds_none p r q answers staged channels rest = record {
  numbers = rest.numbers ∙ ap (λ (l : List ℕ). l ++ numbers_answered answers) staged;
  stay = λ id none. rest.stay id (subst (λ (held : Channels). AreUnconfirmed id held.rows) (sym channels) none);
  fresh = λ below. rest.fresh (subst (λ (held : Channels). AreBelow held.given held.rows) (sym channels) below);
}

-- nothing follows
ends : (p q : Stance) (answers : List OpAnswer) → numbers_answered answers ≡ [] → q ≡ p → KeepsUnconfirmed p answers q
ends p q answers none same = record {
  numbers = ap (λ (s : Stance). staged_numbers s.staged) same ∙ sym (append-nil (staged_numbers p.staged)) ∙ ap (λ (l : List ℕ). staged_numbers p.staged ++ l) (sym none);
  stay = λ id unconfirmed. subst (λ (s : Stance). AreUnconfirmed id s.channels.rows) (sym same) unconfirmed;
  fresh = λ below. subst (λ (l : List ℕ). AllByRecursion (λ id. AreUnconfirmed id q.channels.rows) l) (sym none) tt;
}

-- no channel below a number has it
unconfirmed_above : (bound : ℕ) (rows : List Channel) → AreBelow bound rows → AreUnconfirmed bound rows
unconfirmed_above bound [] below = tt
unconfirmed_above bound (channel ∷ rows) below =
    (λ here. absurd (let e : channel.id ≡ bound = eqb-true channel.id bound here in omega (arith, below.0, e)), unconfirmed_above bound rows below.1)

app_adds_none : (s : Stance) (needs : Bool) (app : List Change) (id : ℕ) (config : ChannelConfig) → IsAppFor s needs app → staged_numbers (app ++ AddingChannel id config ∷ []) ≡ id ∷ []
app_adds_none s true app id config h = rw h.1 refl
app_adds_none s false app id config h = rw h refl

-- one channel is added
adds_one : (p r q : Stance) (config : ChannelConfig) (id : ℕ) (answers : List OpAnswer) → staged_numbers r.staged ≡ staged_numbers p.staged ++ id ∷ [] → r.channels ≡ with_channel p.channels config
    → id ≡ p.channels.given → KeepsUnconfirmed r answers q → KeepsUnconfirmed p (Numbered id ∷ answers) q
adds_one p r q config id answers staged channels number rest =
    let grows : (one : ℕ) → AreUnconfirmed one p.channels.rows → AreUnconfirmed one r.channels.rows =
    λ one none. subst (λ (held : Channels). AreUnconfirmed one held.rows) (sym channels) (unconfirmed_more one p.channels.rows (unconfirmed p.channels.given config) refl none) in
    record {
      numbers = rest.numbers ∙ ap (λ (l : List ℕ). l ++ numbers_answered answers) staged ∙ append_assoc (staged_numbers p.staged) (id ∷ []) (numbers_answered answers);
      stay = λ one none. rest.stay one (grows one none);
      fresh = λ below. (
        rest.stay id (subst (λ (one : ℕ). AreUnconfirmed one r.channels.rows) (sym number) (grows p.channels.given (unconfirmed_above p.channels.given p.channels.rows below))),
        rest.fresh ((channel_numbered config id p.channels r.channels channels number).below below),
      );
    }

line_adds : (change : RowChange) (to : Direction) (p : Stance) (mid : List ℕ) (changed : Bool) (r : Stance) → StanceChangesLine change to p mid (Ok changed) r
    → (staged_numbers r.staged ≡ staged_numbers p.staged) × (r.channels ≡ p.channels)
line_adds change to p mid true r h =
    (ap (λ (s : Stance). staged_numbers s.staged) h.1 ∙ numbers-append p.staged (Setting mid to ∷ []) ∙ append-nil (staged_numbers p.staged), ap (λ (s : Stance). s.channels) h.1)
line_adds change to p mid false r h = (ap (λ (s : Stance). staged_numbers s.staged) h.1, ap (λ (s : Stance). s.channels) h.1)

pub ops_number : (p q : Stance) (ops : List Op) (answers : List OpAnswer) → StancePerformsOps p ops answers q → KeepsUnconfirmed p answers q
ops_number p q [] [] h = ends p q [] refl h
ops_number p q (AddMedia kind dir ∷ ops) (Mid mid ∷ answers) h =
    let rest = ops_number h.0 q ops answers h.2 in
    let none : KeepsUnconfirmed p answers q = adds_none p h.0 q answers
    (ap (λ (s : Stance). staged_numbers s.staged) h.1.rest ∙ numbers-append p.staged (Adding h.1.media ∷ []) ∙ append-nil (staged_numbers p.staged))
    (ap (λ (s : Stance). s.channels) h.1.rest) rest in
    record { numbers = none.numbers; stay = none.stay; fresh = none.fresh }
ops_number p q (AddMedia kind dir ∷ ops) (OpAlloc ∷ []) h = ends p q (OpAlloc ∷ []) refl h
ops_number p q (SetDirection place dir ∷ ops) (NoLine ∷ answers) h =
    let rest = ops_number p q ops answers h.1 in record { numbers = rest.numbers; stay = rest.stay; fresh = rest.fresh }
ops_number p q (SetDirection place dir ∷ ops) (Changed changed ∷ answers) h =
    let line = line_adds (directed_row dir) dir p h.1.mid changed h.0 h.1.called in
    let none : KeepsUnconfirmed p answers q = adds_none p h.0 q answers line.0 line.1 (ops_number h.0 q ops answers h.2) in
    record { numbers = none.numbers; stay = none.stay; fresh = none.fresh }
ops_number p q (SetDirection place dir ∷ ops) (OpAlloc ∷ []) h = ends p q (OpAlloc ∷ []) refl h.called
ops_number p q (StopMedia place ∷ ops) (NoLine ∷ answers) h =
    let rest = ops_number p q ops answers h.1 in record { numbers = rest.numbers; stay = rest.stay; fresh = rest.fresh }
ops_number p q (StopMedia place ∷ ops) (Changed changed ∷ answers) h =
    let line = line_adds stopped_row Inactive p h.1.mid changed h.0 h.1.called in
    let none : KeepsUnconfirmed p answers q = adds_none p h.0 q answers line.0 line.1 (ops_number h.0 q ops answers h.2) in
    record { numbers = none.numbers; stay = none.stay; fresh = none.fresh }
ops_number p q (StopMedia place ∷ ops) (OpAlloc ∷ []) h = ends p q (OpAlloc ∷ []) refl h.called
ops_number p q (AddChannel config ∷ ops) (Numbered id ∷ answers) h =
    adds_one p h.0 q config id answers
    (ap (λ (s : Stance). staged_numbers s.staged) h.1.rest ∙ numbers-append p.staged (h.1.app ++ AddingChannel id config ∷ [])
    ∙ ap (λ (l : List ℕ). staged_numbers p.staged ++ l) (app_adds_none p _ h.1.app id config h.1.app_for))
    (ap (λ (s : Stance). s.channels) h.1.rest) h.1.number (ops_number h.0 q ops answers h.2)
ops_number p q (AddChannel config ∷ ops) (NoChannel ∷ answers) h =
    let none : KeepsUnconfirmed p answers q = adds_none p h.0 q answers (ap (λ (s : Stance). staged_numbers s.staged) h.1.1) (ap (λ (s : Stance). s.channels) h.1.1) (ops_number h.0 q ops answers h.2) in
    record { numbers = none.numbers; stay = none.stay; fresh = none.fresh }
ops_number p q (AddChannel config ∷ ops) (OpAlloc ∷ []) h = ends p q (OpAlloc ∷ []) refl h
ops_number p q (IceRestart keep ∷ ops) (Creds creds ∷ answers) h =
    let none : KeepsUnconfirmed p answers q =
    adds_none p h.0 q answers (ap (λ (s : Stance). staged_numbers s.staged) h.1.1 ∙ numbers-restart creds keep p.staged) (ap (λ (s : Stance). s.channels) h.1.1) (ops_number h.0 q ops answers h.2) in
    record { numbers = none.numbers; stay = none.stay; fresh = none.fresh }
ops_number p q (IceRestart keep ∷ ops) (OpAlloc ∷ []) h = ends p q (OpAlloc ∷ []) refl h
ops_number p q ops answers h = absurd h
