use Rattle.std.proofs.Common.{◌≡◌, ◌++◌, ◌∷◌, [], sym, ◌∙◌, ap, subst}
use Rattle.model_base.specs.Grantees.{AreDistinct, packed}
use Rattle.model_base.proofs.Pushed.{longer, with_user_moved, with_user, with_public, pushed-view, pushed-packed}
use Rattle.model_base.proofs.grantees.Grantees.push.Goals.{Joined-grantee, in-User+then-self-index, in-User+else-self-index, in_default}
use Rattle.model_base.proofs.grantees.Grantees.push.Goals as goal

made : (c : Joined-grantee) → packed (c.args.self.now ++ c.args.grantee ∷ []) ≡ longer c.match-grantee.self-inside
made c =
    let gs = c.args.self.now in
    let is_packed : packed gs ≡ c.self.inside = ap packed (sym c.self.view_is) ∙ c.self.invariant.only in
    elim c.match-grantee.branch [
      | in-User+then-self-index w ↦ with_user_moved gs c.requires.room c.self.inside is_packed c.args.grantee w.in-User.user w.in-User.is w.if-self-index.true ∙ ap longer (sym w.self-inside-is)
      | in-User+else-self-index w ↦ with_user gs c.requires.room c.self.inside is_packed c.args.grantee w.in-User.user w.in-User.is w.if-self-index.false ∙ ap longer (sym w.self-inside-is)
      | in_default w ↦ with_public gs c.requires.room c.self.inside is_packed c.args.grantee w.in_default.is c.requires.is_new ∙ ap longer (sym w.self-inside-is)
    ]

pub invariant_of-self : goal.invariant_of-self
invariant_of-self c =
    pushed-packed c.args.self.now c.args.grantee c.requires.room (subst AreDistinct c.self.view_is c.self.invariant.apart) c.requires.is_new (longer c.match-grantee.self-inside) (made (goal.at.invariant_of-self c).Joined-grantee)

pub returns : goal.returns
returns c =
    pushed-view c.args.self.now c.args.grantee c.requires.room (subst AreDistinct c.self.view_is c.self.invariant.apart) c.requires.is_new (longer c.match-grantee.self-inside) (made (goal.at.returns c).Joined-grantee)
