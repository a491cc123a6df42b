use Rattle.std.proofs.Common.{◌≡◌, ◌+◌, ◌-◌, ap, ◌∙◌, arith}
use Rattle.std.specs.Prelude.{slice_get}
use Rattle.replica_model.specs.Path.{entry_at}
use Rattle.replica_model.specs.Folds.{reply_of}
use Rattle.trace_audit.specs.Books.{KeptBook}
use Rattle.trace_audit.proofs.Places.{got, entry_found, reply_found}
use Rattle.trace_audit.proofs.book.Book.place.Goals as goal

pub returns-clause-entry : goal.returns-clause-entry
returns-clause-entry c =
    let before = c.args.index - 1 in
    let i : c.args.index ≡ c.args.index - 1 + 1 = omega arith in
    entry_found c.self.inside.places.items c.args.index before _ i
    (got c.deref.result.now before c.get.result c.get.ensures.lookup.0 c.get.ensures.lookup.1 ∙ ap (λ xs. slice_get xs before) c.deref.ensures.value)
    ∙ ap (λ (b : KeptBook). entry_at b.entries c.args.index) c.self.view_is

pub returns-clause-reply : goal.returns-clause-reply
returns-clause-reply c =
    let before = c.args.index - 1 in
    let i : c.args.index ≡ c.args.index - 1 + 1 = omega arith in
    reply_found c.self.inside.table c.self.inside.places.items c.args.index before _ c.self.invariant i
    (got c.deref.result.now before c.get.result c.get.ensures.lookup.0 c.get.ensures.lookup.1 ∙ ap (λ xs. slice_get xs before) c.deref.ensures.value)
    ∙ ap (λ (b : KeptBook). reply_of b.limit b.entries c.args.index) c.self.view_is
