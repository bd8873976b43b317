mod Clock
