-- A restart that is staged, in place of one that was: it adds no line, and is offered.
use Rattle.std.proofs.Common.{◌≡◌, ◌+◌, ℕ, Bool, true, false, ◌||◌, List, [], ◌∷◌, ◌++◌, filter, Option, Some, None, refl, ap, ◌∙◌}
use Rattle.std.specs.Option.{option_or}
use Rattle.std.proofs.lemmas.List.Folds.{list_any-append}
use Rattle.rtc_sdp_values.specs.declared.ice_creds.IceCreds.{IceCreds}
use Rattle.rtc_sdp_values.specs.declared.line_row.LineRow.TheVariants.{Media as MediaRow, App}
use Rattle.rtc_change.specs.declared.change.Change.{Change}
use Rattle.rtc_change.specs.declared.change.Change.TheVariants.{AddMedia as Adding, AddApp, AddChannel as AddingChannel, Direction as Setting, IceRestart as Restarting}
use Rattle.rtc_change.specs.PendingOffer.{added_mids, added_rows, do_offer, is_offered, contains_add_app, staged_restart}
use Rattle.rtc_peer_core.specs.Staging.{is_kept_by_restart, with_restart}

-- ---- what is staged besides the restart stays

pub mids-restart : (creds : IceCreds) (keeps : Bool) (staged : List Change) → added_mids (with_restart creds keeps staged) ≡ added_mids staged
mids-restart creds keeps [] = refl
mids-restart creds keeps (Adding media ∷ staged) = ap (λ mids. media.mid ∷ mids) (mids-restart creds keeps staged)
mids-restart creds keeps (AddApp mid ∷ staged) = ap (λ mids. mid ∷ mids) (mids-restart creds keeps staged)
mids-restart creds keeps (AddingChannel id config ∷ staged) = mids-restart creds keeps staged
mids-restart creds keeps (Setting mid dir ∷ staged) = mids-restart creds keeps staged
mids-restart creds keeps (Restarting other kept ∷ staged) = mids-restart creds keeps staged

pub rows-restart : (creds : IceCreds) (keeps : Bool) (place : ℕ) (staged : List Change) → added_rows place (with_restart creds keeps staged) ≡ added_rows place staged
rows-restart creds keeps place [] = refl
rows-restart creds keeps place (Adding media ∷ staged) = ap (λ rows. MediaRow place media.mid media.kind media.dir false false ∷ rows) (rows-restart creds keeps (place + 1) staged)
rows-restart creds keeps place (AddApp mid ∷ staged) = ap (λ rows. App place mid ∷ rows) (rows-restart creds keeps (place + 1) staged)
rows-restart creds keeps place (AddingChannel id config ∷ staged) = rows-restart creds keeps place staged
rows-restart creds keeps place (Setting mid dir ∷ staged) = rows-restart creds keeps place staged
rows-restart creds keeps place (Restarting other kept ∷ staged) = rows-restart creds keeps place staged

pub lined-restart : (creds : IceCreds) (keeps : Bool) (staged : List Change) → contains_add_app (with_restart creds keeps staged) ≡ contains_add_app staged
lined-restart creds keeps [] = refl
lined-restart creds keeps (Adding media ∷ staged) = lined-restart creds keeps staged
lined-restart creds keeps (AddApp mid ∷ staged) = refl
lined-restart creds keeps (AddingChannel id config ∷ staged) = lined-restart creds keeps staged
lined-restart creds keeps (Setting mid dir ∷ staged) = lined-restart creds keeps staged
lined-restart creds keeps (Restarting other kept ∷ staged) = lined-restart creds keeps staged

-- ---- it is offered

or_true : (b : Bool) → (b || true) ≡ true
or_true true = refl
or_true false = refl

pub offers-restart : (creds : IceCreds) (keeps : Bool) (staged : List Change) → do_offer (with_restart creds keeps staged) ≡ true
offers-restart creds keeps staged = list_any-append is_offered (filter is_kept_by_restart staged) (Restarting creds keeps ∷ []) ∙ or_true (do_offer (filter is_kept_by_restart staged))

-- ---- the restart among changes

pub restart-staged : (creds : IceCreds) (keeps : Bool) (staged : List Change) → staged_restart (with_restart creds keeps staged) ≡ Some (creds, keeps)
restart-staged creds keeps [] = refl
restart-staged creds keeps (Adding media ∷ staged) = restart-staged creds keeps staged
restart-staged creds keeps (AddApp mid ∷ staged) = restart-staged creds keeps staged
restart-staged creds keeps (AddingChannel id config ∷ staged) = restart-staged creds keeps staged
restart-staged creds keeps (Setting mid dir ∷ staged) = restart-staged creds keeps staged
restart-staged creds keeps (Restarting other kept ∷ staged) = restart-staged creds keeps staged

-- the restart of changes is that of the first ones, or else that of the rest
pub restart-append : (staged more : List Change) → staged_restart (staged ++ more) ≡ option_or (staged_restart staged) (staged_restart more)
restart-append [] more = refl
restart-append (Adding media ∷ staged) more = restart-append staged more
restart-append (AddApp mid ∷ staged) more = restart-append staged more
restart-append (AddingChannel id config ∷ staged) more = restart-append staged more
restart-append (Setting mid dir ∷ staged) more = restart-append staged more
restart-append (Restarting creds keeps ∷ staged) more = refl

-- changes that are no restart leave it
pub restart-still : (staged staged' more : List Change) → staged' ≡ staged ++ more → staged_restart more ≡ None → staged_restart staged' ≡ staged_restart staged
restart-still staged staged' more pushed none = ap staged_restart pushed ∙ restart-append staged more ∙ ap (option_or (staged_restart staged)) none ∙ or_none (staged_restart staged)
  where
    or_none : (found : Option (IceCreds × Bool)) → option_or found None ≡ found
    or_none None = refl
    or_none (Some restart) = refl
