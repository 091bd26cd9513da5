use Rattle.std.proofs.Common.{Err, sym, ap, subst, arith}
use Rattle.std.proofs.lemmas.Result.{err_from_is_err_and}
use Rattle.row_code.specs.Answers.{◌>>=◌, FailsAs, Answers}
use Rattle.row_code.specs.Reading.{is_memory, lists_at, image_of}
use Rattle.row_code.proofs.{Loop.fails, ImageLaws.is_found, ImageLaws.is_only}
use Rattle.row_code.proofs.reading.read_image.Goals as goal

pub returns-in_err-counts-clause-only : goal.returns-in_err-counts-clause-only
unfolding image_of
returns-in_err-counts-clause-only c =
    let bytes = c.args.bytes.now in
    let f = c.in_err-counts.field-0.0 in
    let read : FailsAs is_memory f (image_of bytes) =
    fails is_memory f (image_of bytes) (ap (λ r. r >>= λ k. lists_at k bytes) (sym c.in_err-counts.ensures.counts)) in
    let p = err_from_is_err_and c.from_residual.result c.from_residual.ensures.1 in
    λ i fits spelled. rw (p.1, p.2) (is_only bytes (Err f) read i fits spelled)

pub returns-clause-found : goal.returns-clause-found
unfolding image_of
returns-clause-found c =
    let bytes = c.args.bytes.now in
    let counts-are = ap (λ r. r >>= λ k. lists_at k bytes) c.in_ok-counts.ensures.counts in
    is_found bytes c.lists_at.result (λ i. omega (arith, c.type_inv.bytes i)) c.lists_at.ensures.fits
    (subst (Answers is_memory (λ read. read) c.lists_at.result) counts-are c.lists_at.ensures.read)

pub returns-clause-only : goal.returns-clause-only
unfolding image_of
returns-clause-only c =
    let bytes = c.args.bytes.now in
    let counts-are = ap (λ r. r >>= λ k. lists_at k bytes) c.in_ok-counts.ensures.counts in
    is_only bytes c.lists_at.result
    (subst (Answers is_memory (λ read. read) c.lists_at.result) counts-are c.lists_at.ensures.read)
