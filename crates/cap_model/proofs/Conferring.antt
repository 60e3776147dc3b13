-- Lessening adds no authority, and no capability confers Reply.
use Rattle.cap_model.proofs.Common.{AsyncSend, Authority, Call, Cap, Endpoint, Frame, Grant, GrantBack, Kind, Notification, Read, Receive, Reply, Reset, Spec, SyncSend, Write, confers, kind_at, kind_confers, option_confers, rules}
use Rattle.std.specs.Prelude.{◌≡◌, ◌≢◌, Bool, true, false, ◌&&◌, ◌||◌, Option, Some, None, refl}
use Rattle.cap_model.specs.declared.rights.Rights.{Rights}
use Rattle.cap_model.specs.Lessened.{both_rights, lessened}

left_true : (a b : Bool) → a && b ≡ true → a ≡ true
left_true true b e = refl
left_true false b e = e

both_true : (a b c d : Bool) → (a && c) && (b && d) ≡ true → a && b ≡ true
both_true true true c d e = refl
both_true true false true d e = cc
both_true true false false d e = cc
both_true false b c d e = cc

call_true : (w g p w' g' p' : Bool) → (w && w') && ((g && g') || (p && p')) ≡ true → w && (g || p) ≡ true
call_true false g p w' g' p' e = cc
call_true true true p w' g' p' e = refl
call_true true false true w' g' p' e = refl
call_true true false false true g' p' e = cc
call_true true false false false g' p' e = cc

pub lessened_kind : (k : Kind) (rights r : Rights) (a : Authority) → kind_confers k (both_rights rights r) a ≡ true
    → kind_confers k rights a ≡ true
lessened_kind Endpoint rights r Reset e = refl
lessened_kind Endpoint rights r Receive e = left_true _ _ e
lessened_kind Endpoint rights r SyncSend e = left_true _ _ e
lessened_kind Endpoint rights r Grant e = both_true rights.write rights.grant r.write r.grant e
lessened_kind Endpoint rights r Call e = call_true rights.write rights.grant rights.reply r.write r.grant r.reply e
lessened_kind Endpoint rights r GrantBack e = both_true rights.read rights.grant r.read r.grant e
lessened_kind Notification rights r Reset e = refl
lessened_kind Notification rights r Receive e = left_true _ _ e
lessened_kind Notification rights r AsyncSend e = left_true _ _ e
lessened_kind Frame rights r Read e = left_true _ _ e
lessened_kind Frame rights r Write e = left_true _ _ e
lessened_kind _ rights r _ e = e

pub lessened_option : (k : Option Kind) (rights r : Rights) (a : Authority) → option_confers k (both_rights rights r) a ≡ true
    → option_confers k rights a ≡ true
lessened_option None rights r a e = e
lessened_option (Some k) rights r a e = lessened_kind k rights r a e

-- a lessened capability confers no more
pub lessened_confers : (spec : Spec) (cap : Cap) (r : Rights) (a : Authority) → confers spec (lessened cap r) a ≡ true
    → confers spec cap a ≡ true
lessened_confers spec cap r a e = lessened_option (kind_at spec cap.object) cap.rights r a e

reply_kind : (k : Kind) (rights : Rights) → kind_confers k rights Reply ≡ false
reply_kind Endpoint rights = refl
reply_kind _ rights = refl

no_reply_option : (k : Option Kind) (rights : Rights) → option_confers k rights Reply ≡ false
no_reply_option None rights = refl
no_reply_option (Some k) rights = reply_kind k rights

-- no capability confers Reply
pub not_reply : (spec : Spec) (cap : Cap) (a : Authority) → confers spec cap a ≡ true → a ≢ Reply
not_reply spec cap a e same = search (rules, no_reply_option)

pub not_reply_kind : (k : Kind) (rights : Rights) (a : Authority) → kind_confers k rights a ≡ true → a ≢ Reply
not_reply_kind k rights a e same = search (rules, reply_kind)
