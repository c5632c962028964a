-- The line of data channels that ops stage, and its mid.
use Rattle.std.proofs.Common.{◌≡◌, ℕ, Bool, true, false, ◌||◌, List, [], ◌∷◌, ◌++◌, Option, Some, None, Ok, refl, sym, ◌∙◌, ap, append-nil}
use Rattle.std.proofs.lemmas.List.Folds.{list_any-append}
use Rattle.rtc_wire.specs.declared.channel_config.ChannelConfig.{ChannelConfig}
use Rattle.rtc_sdp_values.specs.declared.direction.Direction.{Direction}
use Rattle.rtc_sdp_values.specs.declared.direction.Direction.TheVariants.{Inactive}
use Rattle.rtc_channels.specs.Channels.{with_channel}
use Rattle.rtc_change.specs.declared.change.Change.{Change}
use Rattle.rtc_change.specs.declared.change.Change.TheVariants.{AddMedia as Adding, AddApp, AddChannel as AddingChannel, Direction as Setting, IceRestart as Restarting}
use Rattle.rtc_change.specs.PendingOffer.{is_add_app, contains_add_app}
use Rattle.rtc_peer_rows.specs.RowChanges.{RowChange, directed_row, stopped_row}
use Rattle.rtc_peer_core.specs.Stance.{Stance}
use Rattle.rtc_sdp_values.specs.declared.ice_creds.IceCreds.{IceCreds}
use Rattle.rtc_peer_core.specs.Names.{is_held}
use Rattle.rtc_peer_core.specs.Staging.{with_restart}
use Rattle.rtc_run_history.specs.declared.op.Op.{Op}
use Rattle.rtc_run_history.specs.declared.op.Op.TheVariants.{AddMedia, SetDirection, StopMedia, AddChannel, IceRestart}
use Rattle.rtc_run_history.specs.declared.op_answer.OpAnswer.{OpAnswer}
use Rattle.rtc_run_history.specs.declared.op_answer.OpAnswer.TheVariants.{Mid, Changed, NoLine, Channel, BadChannel, Creds, Alloc as OpAlloc}
use Rattle.rtc_run_history.specs.Answers.{has_app_row, waiting_row}
use Rattle.rtc_peer_core.proofs.StanceCalls.{StanceAddsChannel, StanceChangesLine, IsAppFor}
use Rattle.rtc_run_laws.proofs.StanceSteps.{StancePerformsOps, needs_app}

-- the mid of the line of data channels that changes add, if they add one
abbrev pub staged_app : List Change → Option (List ℕ)
staged_app [] = None
staged_app (Adding media ∷ changes) = staged_app changes
staged_app (AddApp mid ∷ changes) = Some mid
staged_app (AddingChannel id config ∷ changes) = staged_app changes
staged_app (Setting mid dir ∷ changes) = staged_app changes
staged_app (Restarting creds keeps ∷ changes) = staged_app changes

-- The mid of a line of data channels that is still to be staged is that of the line that is staged in the end.
abbrev pub AppTold : Stance → Option (List ℕ) → Stance → Type 0
AppTold p None q = Unit {0}
AppTold p (Some mid) q = (needs_app p ≡ true) × ((own : List ℕ) → staged_app q.staged ≡ Some own → own ≡ mid)

-- ---- changes that are staged behind others

app_stays : (staged more : List Change) (mid : List ℕ) → staged_app staged ≡ Some mid → staged_app (staged ++ more) ≡ Some mid
app_stays [] more mid is = absurd (let e : None ≡ Some mid = is in cc)
app_stays (Adding media ∷ staged) more mid is = app_stays staged more mid is
app_stays (AddApp own ∷ staged) more mid is = is
app_stays (AddingChannel id config ∷ staged) more mid is = app_stays staged more mid is
app_stays (Setting own dir ∷ staged) more mid is = app_stays staged more mid is
app_stays (Restarting creds keeps ∷ staged) more mid is = app_stays staged more mid is

app_behind : (staged more : List Change) → contains_add_app staged ≡ false → staged_app (staged ++ more) ≡ staged_app more
app_behind [] more none = refl
app_behind (Adding media ∷ staged) more none = app_behind staged more none
app_behind (AddApp own ∷ staged) more none = absurd (cc)
app_behind (AddingChannel id config ∷ staged) more none = app_behind staged more none
app_behind (Setting own dir ∷ staged) more none = app_behind staged more none
app_behind (Restarting creds keeps ∷ staged) more none = app_behind staged more none

-- a restart leaves the line of data channels
app_restarted : (creds : IceCreds) (keeps : Bool) (staged : List Change) → staged_app (with_restart creds keeps staged) ≡ staged_app staged
app_restarted creds keeps [] = refl
app_restarted creds keeps (Adding media ∷ staged) = app_restarted creds keeps staged
app_restarted creds keeps (AddApp own ∷ staged) = refl
app_restarted creds keeps (AddingChannel id config ∷ staged) = app_restarted creds keeps staged
app_restarted creds keeps (Setting own dir ∷ staged) = app_restarted creds keeps staged
app_restarted creds keeps (Restarting other kept ∷ staged) = app_restarted creds keeps staged

pub contains-append : (staged more : List Change) → contains_add_app (staged ++ more) ≡ (contains_add_app staged || contains_add_app more)
contains-append staged more = list_any-append is_add_app staged more

-- a peer whose staged changes are those of another, and more
pub record StagesMore (p r : Stance) : Type 0 where
  pub more : List Change
  pub is : r.staged ≡ p.staged ++ more

none_more : (p r : Stance) → r ≡ p → StagesMore p r
none_more p r same = record { more = []; is = ap (λ q. q.staged) same ∙ sym (append-nil p.staged) }

line_more : (change : RowChange) (to : Direction) (p : Stance) (mid : List ℕ) (changed : Bool) (r : Stance) → StanceChangesLine change to p mid (Ok changed) r → StagesMore p r
line_more change to p mid true r h = record { more = Setting mid to ∷ []; is = ap (λ q. q.staged) h.1 }
line_more change to p mid false r h = none_more p r h.1

kept_by : (p r : Stance) (mid : List ℕ) → StagesMore p r → staged_app p.staged ≡ Some mid → staged_app r.staged ≡ Some mid
kept_by p r mid grown is = rw grown.is (app_stays p.staged grown.more mid is)

-- a line of data channels that is staged stays staged
pub app_kept : (p q : Stance) (ops : List Op) (answers : List OpAnswer) (own : List ℕ) → StancePerformsOps p ops answers q → staged_app p.staged ≡ Some own → staged_app q.staged ≡ Some own
app_kept p q [] [] own h is = rw h is
app_kept p q (AddMedia kind dir ∷ ops) (Mid mid ∷ answers) own h is =
    app_kept h.0 q ops answers own h.2 (kept_by p h.0 own (record { more = Adding h.1.media ∷ []; is = ap (λ r. r.staged) h.1.rest }) is)
app_kept p q (AddMedia kind dir ∷ ops) (OpAlloc ∷ []) own h is = ap (λ r. staged_app r.staged) h ∙ is
app_kept p q (SetDirection place dir ∷ ops) (NoLine ∷ answers) own h is = app_kept p q ops answers own h.1 is
app_kept p q (SetDirection place dir ∷ ops) (Changed changed ∷ answers) own h is =
    app_kept h.0 q ops answers own h.2 (kept_by p h.0 own (line_more (directed_row dir) dir p h.1.mid changed h.0 h.1.called) is)
app_kept p q (SetDirection place dir ∷ ops) (OpAlloc ∷ []) own h is = ap (λ r. staged_app r.staged) h.called ∙ is
app_kept p q (StopMedia place ∷ ops) (NoLine ∷ answers) own h is = app_kept p q ops answers own h.1 is
app_kept p q (StopMedia place ∷ ops) (Changed changed ∷ answers) own h is =
    app_kept h.0 q ops answers own h.2 (kept_by p h.0 own (line_more stopped_row Inactive p h.1.mid changed h.0 h.1.called) is)
app_kept p q (StopMedia place ∷ ops) (OpAlloc ∷ []) own h is = ap (λ r. staged_app r.staged) h.called ∙ is
app_kept p q (AddChannel config ∷ ops) (Channel id ∷ answers) own h is =
    app_kept h.0 q ops answers own h.2 (kept_by p h.0 own (record { more = h.1.app ++ AddingChannel id config ∷ []; is = ap (λ r. r.staged) h.1.rest }) is)
app_kept p q (AddChannel config ∷ ops) (BadChannel ∷ answers) own h is = app_kept h.0 q ops answers own h.2 (ap (λ r. staged_app r.staged) h.1.1 ∙ is)
app_kept p q (AddChannel config ∷ ops) (OpAlloc ∷ []) own h is = ap (λ r. staged_app r.staged) h ∙ is
app_kept p q (IceRestart keep ∷ ops) (Creds creds ∷ answers) own h is =
    app_kept h.0 q ops answers own h.2 (ap (λ r. staged_app r.staged) h.1.1 ∙ app_restarted creds keep p.staged ∙ is)
app_kept p q (IceRestart keep ∷ ops) (OpAlloc ∷ []) own h is = ap (λ r. staged_app r.staged) h ∙ is
app_kept p q ops answers own h is = absurd h

-- ---- whether a line is needed

pub needs_same : (p r : Stance) → has_app_row r.lines ≡ has_app_row p.lines → contains_add_app r.staged ≡ contains_add_app p.staged → needs_app r ≡ needs_app p
needs_same p r rows staged = rw (rows, staged) refl

pub told_same : (p r : Stance) (app : Option (List ℕ)) (q : Stance) → needs_app r ≡ needs_app p → AppTold p app q → AppTold r app q
told_same p r None q same is = tt
told_same p r (Some mid) q same is = (same ∙ is.0, is.1)

-- What a channel is staged with.
pub record ChannelStaged (p : Stance) (config : ChannelConfig) (id : ℕ) (r : Stance) : Type 0 where
  pub lines : r.lines ≡ p.lines
  pub counter : r.counter ≡ p.counter
  pub channels : r.channels ≡ with_channel p.channels config
  pub rows : r.rows ≡ p.rows ++ waiting_row id ∷ []
  pub numbered : id ≡ p.channels.given
  -- with a line, where one is needed
  pub app_mid : List ℕ
  pub free : needs_app p ≡ true → is_held p.lines p.staged app_mid ≡ false
  pub alone : needs_app p ≡ false → r.staged ≡ p.staged ++ AddingChannel id config ∷ []
  pub lined : needs_app p ≡ true → r.staged ≡ p.staged ++ AddApp app_mid ∷ AddingChannel id config ∷ []

pub channel_staged : (p : Stance) (config : ChannelConfig) (id : ℕ) (r : Stance) → StanceAddsChannel p config (Ok id) r → ChannelStaged p config id r
channel_staged p config id r h = by (needs_app p) refl h.app_for
  where
    by : (needs : Bool) → needs_app p ≡ needs → IsAppFor p needs h.app → ChannelStaged p config id r
    by true is there = record {
      lines = ap (λ q. q.lines) h.rest;
      counter = ap (λ q. q.counter) h.rest;
      channels = ap (λ q. q.channels) h.rest;
      rows = ap (λ q. q.rows) h.rest;
      numbered = h.number;
      app_mid = there.0;
      free = λ needed. there.2.0;
      alone = λ none. absurd (let e : true ≡ false = sym is ∙ none in cc);
      lined = λ needed. ap (λ q. q.staged) h.rest ∙ ap (λ (app : List Change). p.staged ++ (app ++ AddingChannel id config ∷ [])) there.1;
    }
    by false is none = record {
      lines = ap (λ q. q.lines) h.rest;
      counter = ap (λ q. q.counter) h.rest;
      channels = ap (λ q. q.channels) h.rest;
      rows = ap (λ q. q.rows) h.rest;
      numbered = h.number;
      app_mid = [];
      free = λ needed. absurd (let e : false ≡ true = sym is ∙ needed in cc);
      alone = λ unneeded. ap (λ q. q.staged) h.rest ∙ ap (λ (app : List Change). p.staged ++ (app ++ AddingChannel id config ∷ [])) none;
      lined = λ needed. absurd (let e : false ≡ true = sym is ∙ needed in cc);
    }

-- nothing is staged of data channels where a line is needed
pub none_there : (p : Stance) → needs_app p ≡ true → (has_app_row p.lines ≡ false) × (contains_add_app p.staged ≡ false)
none_there p is = by (has_app_row p.lines) (contains_add_app p.staged) refl refl
  where
    by : (rows staged : Bool) → has_app_row p.lines ≡ rows → contains_add_app p.staged ≡ staged → (has_app_row p.lines ≡ false) × (contains_add_app p.staged ≡ false)
    by false false rows staged = (rows, staged)
    by true staged rows there = absurd (let e = rw rows at is in cc)
    by false true rows staged = absurd (let e = rw (rows, staged) at is in cc)

-- the line that is staged in the end is the one that a channel came with
pub app_mid_is : (p r q : Stance) (config : ChannelConfig) (id : ℕ) (ops : List Op) (answers : List OpAnswer) → needs_app p ≡ true → (staged : ChannelStaged p config id r)
    → StancePerformsOps r ops answers q → staged_app q.staged ≡ Some staged.app_mid
app_mid_is p r q config id ops answers is staged h =
    app_kept r q ops answers staged.app_mid h (ap staged_app (staged.lined is) ∙ app_behind p.staged _ (none_there p is).1)
