-- What stands at a record: the fields of its term, the term's end, and what stands in an evaluation context.
use Rattle.std.proofs.Common.{◌≡◌, refl, ap, ◌∙◌, ◌++◌, append_assoc, ℕ, ◌+◌, ◌*◌, arith}
use Rattle.calculus.specs.Security.{Property, Security}
use Rattle.calculus.specs.Types.{Ty}
use Rattle.calculus.specs.Terms.{plus, less, Term, var, unit, lam, pair, inj, app, proj, case, protect, mu, literal}
use Rattle.calculus.specs.Terms.{reckon}
use Rattle.calculus.specs.Reduction.{Context, plug}
use Rattle.rules.specs.Answer.{Bytes}
use Rattle.rules.specs.Limits.{script_width}
use Rattle.rules.specs.Script.{r, encode}
use Rattle.rules.proofs.Parts.{past}
use Rattle.records.specs.Place.{At}
use Rattle.records.specs.Labels.{property_at}
use Rattle.records.proofs.Made.{property_stands, property_of as head_property}
use Rattle.redex.specs.Contexts.{before, after, offset}
use Rattle.redex.specs.Fates.{property_of}
use Rattle.redex.specs.Found.{Site}
use Rattle.redex.proofs.Plugs.{plug_bytes, before_length}

-- the groups of a term's own record
own_groups : (e : Term) → head_property e ≡ property_of e
own_groups (reckon plus w a b) = refl
own_groups _ = refl

module _ {s : Bytes} {i : ℕ} {e : Term} (a : At s i e) where
  pub groups_at : property_at s i ≡ property_of e
  groups_at = property_stands a ∙ own_groups e

  pub reader_at : r s i ≡ (property_of e).r
  reader_at = ap (λ (k : Property). k.r) groups_at

-- what stands in the hole of a context
pub hole_at : {s : Bytes} {i : ℕ} {e : Term} (E : Context) (x : Term) → At s i e → e ≡ plug E x → At s (i + offset E) x
hole_at {s} {i} {e} E x a w =
    record {
      rest = after E ++ a.rest;
      stands =
          past s (script_width * i) (script_width * offset E) (script_width * (i + offset E)) (before E) (encode x ++ (after E ++ a.rest))
          (before_length E) (omega arith)
          (a.stands ∙ ap (λ t. encode t ++ a.rest) w ∙ ap (λ b. b ++ a.rest) (plug_bytes E x) ∙ simp append_assoc);
    }

pub site_at : {S : Security} {tab : ℕ → Ty} {s : Bytes} {i d : ℕ} {e : Term} {place around : ℕ} (x : Site S tab i d e place around)
    → At s i e → At s place x.redex
site_at x a = rw x.place_is (hole_at x.context x.redex a x.whole)
