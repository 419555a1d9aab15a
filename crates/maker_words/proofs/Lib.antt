mod Numbers
mod Letters
