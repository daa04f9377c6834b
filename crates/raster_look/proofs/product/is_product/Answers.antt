-- `is_product`: by the quotient and what it leaves, or of no columns.
use Rattle.raster_laws.specs.Counts.{product_none, product_by_quotient}
use Rattle.raster_look.proofs.product.is_product.Goals as goal

pub returns-then-columns-eq0 : goal.returns-then-columns-eq0
returns-then-columns-eq0 c = product_none c.args.n c.args.columns c.args.rows c.if-columns-eq0.true

pub returns : goal.returns
returns c = product_by_quotient c.args.n c.args.columns c.args.rows c.if-columns-eq0.false
