use Rattle.std.proofs.Common.{sym, ◌∙◌, subst}
use Rattle.rule_books.specs.Books.{book_for}
use Rattle.rule_books.proofs.user.with_book.Goals as goal

-- each book has these parameters
pub use_book-requires : goal.use_book-requires
use_book-requires g c = subst (g.U.BookUser.asks c.args.user) (c.in-UsProperty.is ∙ sym c.new.ensures) c.requires.asks

pub use_book-requires-in-Canada : goal.use_book-requires-in-Canada
use_book-requires-in-Canada g c = subst (g.U.BookUser.asks c.args.user) (c.in-Canada.is ∙ sym c.new-in-Canada.ensures) c.requires.asks

pub use_book-requires-in-Hvnl : goal.use_book-requires-in-Hvnl
use_book-requires-in-Hvnl g c = subst (g.U.BookUser.asks c.args.user) c.in-Hvnl.is c.requires.asks

-- and what is promised of its machine is promised of that of these parameters
pub returns-in-UsProperty : goal.returns-in-UsProperty
returns-in-UsProperty g c = subst (λ p. g.U.BookUser.gives c.args.user (book_for p) c.use_book.result) (c.new.ensures ∙ sym c.in-UsProperty.is) c.use_book.ensures

pub returns-in-Canada : goal.returns-in-Canada
returns-in-Canada g c = subst (λ p. g.U.BookUser.gives c.args.user (book_for p) c.use_book-in-Canada.result) (c.new-in-Canada.ensures ∙ sym c.in-Canada.is) c.use_book-in-Canada.ensures

pub returns-in-Hvnl : goal.returns-in-Hvnl
returns-in-Hvnl g c = subst (λ p. g.U.BookUser.gives c.args.user (book_for p) c.use_book-in-Hvnl.result) (sym c.in-Hvnl.is) c.use_book-in-Hvnl.ensures
